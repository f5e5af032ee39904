-- `graphwords::word_at` meets its contract: the words from the place that was reached are those from the first place on, since only partings were passed.
use Rattle.std.proofs.Common.{◌+◌, ap, ◌∙◌, arith}
use Rattle.std.specs.List.{prefix_len}
use Rattle.plain.proofs.Lists.{part-from}
use Rattle.graphwords.specs.Words.{is_parting}
use Rattle.graphwords.specs.Inner.Found.{Begins}
use Rattle.graphwords.proofs.Words.{begins}
use Rattle.graphwords.proofs.word_at.Goals as goal
use Rattle.graphwords.proofs.word_at.Goals.{After-partings}

reached : (c : After-partings) → Begins c.args.text.now c.args.from (c.args.from + c.partings.result)
reached c = begins _ _ _ c.requires (c.partings.ensures ∙ ap (prefix_len is_parting) (part-from c.args.from c.args.text.now))

pub overflow_add-result : goal.overflow_add-result
overflow_add-result c = omega (arith, (reached c).inside)

pub returns : goal.returns
returns c = reached c
