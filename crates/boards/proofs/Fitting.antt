-- A row whose densities fit is bare or has the ranges of a standing one, so its sum is at most 64 times the greatest density.
use mathlib.Core.Path.{◌≡◌}
use mathlib.Core.Bool.{true}
use mathlib.Core.List.{List}
use Prim.Native.Nat.{ℕ, ◌*◌, ◌≤◌, ◌<◌}
use native.Mathlib.Nat.{le_trans, mul-le-mul}
use native.Mathlib.Omega.{arith}
use lib.Dec.{eqb}
use borrow.Author.Tests.{eqb-true}
use Rattle.plain.specs.Sums.{sum_to}
use Rattle.plain.proofs.Picks.{pick-case}
use Rattle.plain.proofs.Sums.{sum_to-le}
use Rattle.tables.specs.Limits.{id_max, count_max, density_max}
use Rattle.boards.specs.declared.Row.{Row}
use Rattle.boards.specs.Row.{rows_max, row_at}
use Rattle.plain.specs.Tests.{between}
use Rattle.boards.specs.Sound.{is_bare, is_dense, is_new}
use Rattle.boards.specs.Inner.Halves.{densities_fit, densities_sound}
use Rattle.plain.proofs.Tests.{both_true, between-true, all_to-true}

-- one row, for itself
fit-sum-le : (r : Row) → densities_fit r ≡ true → r.sum ≤ count_max * density_max
unfolding densities_fit
fit-sum-le r = pick-case (λ t. t ≡ true → r.sum ≤ count_max * density_max) (is_bare r) (λ b e. bare b) (λ b e. dense e)
  where
    bare : is_bare r ≡ true → r.sum ≤ count_max * density_max
    bare e =
        let w = (both_true (eqb r.nodes 0) _ (both_true (eqb r.id 0) _ e).1).1 in
        let none = eqb-true r.sum 0 (both_true (eqb r.sum 0) (eqb r.largest 0) w).0 in
        omega arith

    dense : is_dense r ≡ true → r.sum ≤ count_max * density_max
    dense e =
        let a = both_true (between 1 r.nodes count_max) _ (both_true (between 1 r.id id_max) _ e).1 in
        let b = both_true (between 1 r.largest density_max) (between r.largest r.sum (r.nodes * r.largest)) a.1 in
        le_trans (between-true r.largest r.sum (r.nodes * r.largest) b.1).1
        (mul-le-mul (between-true 1 r.nodes count_max a.0).1 (between-true 1 r.largest density_max b.0).1)

-- each row of a board whose densities fit
module _ (rows : List Row) (fit : densities_sound rows ≡ true) where
  pub fit-row-le : (k : ℕ) → k < rows_max → (row_at rows k).sum ≤ count_max * density_max
  fit-row-le k h = fit-sum-le (row_at rows k) (both_true (densities_fit (row_at rows k)) (is_new (λ i. (row_at rows i).id) k) (all_to-true rows_max _ fit k h)).0

  -- and so many can be added up
  pub fit-rows-le : (n : ℕ) → n ≤ rows_max → sum_to n (λ k. (row_at rows k).sum) ≤ n * (count_max * density_max)
  fit-rows-le n h = sum_to-le n (count_max * density_max) _ (λ k l. fit-row-le k (omega arith))
