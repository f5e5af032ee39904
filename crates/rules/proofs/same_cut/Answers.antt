-- `rules::same_cut` meets its contract: it asks the definition's test of each segment, where there are as many.
use borrow.Author.Tests.{tests, eq-eqb}
use Rattle.std.proofs.Common.{rules}
use Rattle.plain.proofs.Tests.{pick_yes}
use Rattle.rules.proofs.Alls.{all-below}
use Rattle.rules.proofs.same_cut.Goals as goal

pub returns : goal.returns
returns c =
    pick_yes _ (eq-eqb _ _ (rw (c.segments.ensures, c.segments-2.ensures) at c.if-segments.false))
    (all-below _ _ c.all.ensures.ran (rw c.segments-3.ensures) (λ x b q k. search (rules, tests)))
