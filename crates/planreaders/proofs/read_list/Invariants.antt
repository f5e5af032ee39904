use Rattle.planreaders.proofs.Lists.{Reading}
use Rattle.planreaders.proofs.read_list.Given as goal

abbrev pub invariant-loop-word : goal.invariant-loop-word
invariant-loop-word l = Reading l.plan l.count.next l.count.value l.initial.word-items l.word-items l.next l.word-index
