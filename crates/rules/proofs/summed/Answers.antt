-- `rules::summed` meets its contract: it asks the definition's test of each node.
use borrow.Author.Tests.{tests}
use Rattle.std.proofs.Common.{rules}
use Rattle.rules.proofs.Alls.{all-below}
use Rattle.rules.proofs.summed.Goals as goal

pub returns : goal.returns
returns c = all-below _ _ c.all.ensures.ran (rw c.nodes.ensures) (λ x b q k. search (rules, tests))
