-- `sets::Members::next` keeps its promise: the trailing zeros are the first member, and the word without its lowest digit has the others.
use native.Mathlib.Omega.{arith}
use Rattle.sets.proofs.Walks.{walk}
use Rattle.sets.proofs.MembersIterator.next.Goals as goal

pub returns-clause-steps : goal.returns-clause-steps
returns-clause-steps c = walk c.args.self.now.left c.if-self-eq0.false (omega arith)

pub returns-clause-goes : goal.returns-clause-goes
returns-clause-goes c = record { on = λ f. (tt, tt, (walk c.args.self.now.left c.if-self-eq0.false (omega arith)).less); keeps = tt; rests = λ f. tt }
