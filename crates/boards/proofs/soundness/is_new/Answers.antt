-- `boards::soundness::is_new` meets its contract: id 0 is new, and any other just where each of those before it differs.
use Rattle.std.proofs.Common.{◌∙◌, rules, arith, not, take}
use borrow.Author.Tests.{eq-eqb, ne_eqb, tests}
use lib.Dec.{eqb}
use Rattle.std.proofs.lemmas.Iterator.{YieldsList-from_slice}
use Rattle.std.proofs.lemmas.Iterator.Search.{all_from_yields_List}
use Rattle.plain.specs.At.{at}
use Rattle.plain.proofs.Tests.{pick_no}
use Rattle.boards.specs.Sound.{is_new}
use Rattle.boards.proofs.Sound.{others-new}
use Rattle.boards.proofs.soundness.is_new.Goals as goal

pub returns-then-own-eq0 : goal.returns-then-own-eq0
unfolding is_new
returns-then-own-eq0 c = rw (eq-eqb _ _ c.if-own-eq0.true)

pub returns-else-own-eq0 : goal.returns-else-own-eq0
unfolding is_new
returns-else-own-eq0 c =
    let ids = c.args.ids.now in
    let e = all_from_yields_List (λ x. not (eqb x (at ids c.args.k))) _ _ _ c.all.ensures.ran (YieldsList-from_slice (take c.args.k ids) cc) (λ x b q k. search (rules, tests)) in
    pick_no _ (ne_eqb _ _ c.if-own-eq0.false) (e ∙ others-new ids c.args.k (omega arith))
