-- `boards::soundness::densities_sound` meets its contract. The loop's invariant: the rows passed fit and are new, their ids stand in the array, and the ids'
-- remainders in the set; the first row that isn't makes the whole test fail.
use mathlib.Core.Path.{◌≡◌, refl, sym, ◌∙◌}
use mathlib.Core.Logic.{⊎_elim}
use mathlib.Core.Bool.{Bool, true, false}
use mathlib.Core.List.{List}
use Prim.Native.Nat.{ℕ, ◌+◌, ◌%◌, ◌^◌, ◌<◌}
use native.Mathlib.Nat.{eq-or-lt_of_le, not-suc-le-zero}
use native.Mathlib.Omega.{arith}
use borrow.Author.Tests.{eqb-false}
use lib.ListN.{set}
use Rattle.plain.specs.At.{at}
use Rattle.plain.proofs.Lists.{fill-zeros, fill_more}
use Rattle.sets.specs.Inner.Put.{with_member}
use Rattle.sets.proofs.Bits.{put_same, mem-or-l, with-or}
use Rattle.boards.specs.declared.Row.{Row}
use Rattle.boards.specs.Row.{rows_max, row_at}
use Rattle.boards.specs.Sound.{is_new}
use Rattle.boards.specs.Inner.Halves.{densities_sound}
use Rattle.boards.proofs.Sound.{ids_of, new-same, new_apart}
use Rattle.plain.proofs.Tests.{true-both, pick_yes, pick_no, passed, failed, all_to-none, all_to-more, all_to-false}
use Rattle.boards.proofs.soundness.densities_sound.Goals as goal
use Rattle.boards.proofs.soundness.densities_sound.Goals.{else-is_member-via-then-is_member+else-not-is_new, else-is_member-via-else-is_member}
use Rattle.boards.proofs.soundness.densities_sound.Invariants.{passes, Ids, Remainders}

-- with one more put in
remainder-more : (rows : List Row) (k s r : ℕ) → Remainders rows k s → r ≡ with_member ((row_at rows k).id % 64) s → Remainders rows (k + 1) r
remainder-more rows k s r has e i h =
    rw (e, with-or ((row_at rows k).id % 64) s)
    (⊎_elim (λ (q : i ≡ k). rw q (put_same s ((row_at rows k).id % 64))) (λ (l : i < k). mem-or-l ((row_at rows i).id % 64) s (2 ^ ((row_at rows k).id % 64)) (has i l)) (eq-or-lt_of_le (omega arith)))

-- one that fails makes the whole test fail
fails : (rows : List Row) (k : ℕ) → k < rows_max → false ≡ passes rows k → false ≡ densities_sound rows
fails rows k l e = sym (all_to-false rows_max (passes rows) k l (sym e))

pub loop-k-init : goal.loop-k-init
loop-k-init c = (all_to-none _, fill-zeros _ rows_max, λ i h. absurd (not-suc-le-zero h))

pub returns-then-not-densities_fit : goal.returns-then-not-densities_fit
returns-then-not-densities_fit c =
    fails c.args.board.now.rows c.loop-k.k (omega arith) (pick_no _ (failed c.densities_fit.ensures c.if-not-densities_fit.true) refl)

-- the array with this row's id
more : (rows : List Row) (k : ℕ) (ids : List ℕ) → k < rows_max → Ids rows k ids → Ids rows (k + 1) (set ids k (row_at rows k).id)
more rows k ids l done = fill_more _ l refl done

-- the test of the ids is that of the rows
new-so : (rows : List Row) (k : ℕ) (ids : List ℕ) {s : Bool} → s ≡ is_new (at ids) k → Ids rows (k + 1) ids → s ≡ is_new (ids_of rows) k
new-so rows k ids e done = e ∙ new-same _ (ids_of rows) k (λ i h. done.done i (omega arith))

pub returns-then-not-is_new : goal.returns-then-not-is_new
returns-then-not-is_new c =
    fails c.args.board.now.rows c.loop-k.k (omega arith)
    (pick_yes _ (passed c.densities_fit.ensures c.if-not-densities_fit.false) (sym (failed (new-so c.args.board.now.rows c.loop-k.k _ c.is_new.ensures (more c.args.board.now.rows c.loop-k.k _ (omega arith) c.loop-k.invariant.1)) c.if-not-is_new.true)))

pub loop-k-preserved : goal.loop-k-preserved
loop-k-preserved c =
    let rows = c.args.board.now.rows in
    let ids = more rows c.loop-k.k _ (omega arith) c.loop-k.invariant.1 in
    let new : is_new (ids_of rows) c.loop-k.k ≡ true = elim c.else-is_member.branch [
      | else-is_member-via-then-is_member+else-not-is_new w ↦ passed (new-so rows c.loop-k.k _ w.is_new.ensures ids) w.if-not-is_new.false
      | else-is_member-via-else-is_member w ↦ new_apart (ids_of rows) c.loop-k.k _ c.loop-k.invariant.2 (eqb-false _ _ (sym c.is_member.ensures ∙ w.if-is_member.false))
    ] in
    let here = true-both (passed c.densities_fit.ensures c.if-not-densities_fit.false) new in
    (all_to-more c.loop-k.k (passes rows) ∙ true-both c.loop-k.invariant.0 here, ids, remainder-more rows c.loop-k.k _ _ c.loop-k.invariant.2 c.with_member-remainders.ensures)

pub returns : goal.returns
returns c =
    let end : c.loop-k.k ≡ rows_max = omega arith in
    sym (rw end at c.loop-k.invariant.0)
