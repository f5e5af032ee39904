-- The two halves of the test are the test of a board: a row is free or standing just where both halves fit it, since a row without an id has no
-- ranges of a standing one, and one with an id isn't free.
use mathlib.Core.Path.{◌≡◌, refl, sym, ◌∙◌}
use mathlib.Core.Bool.{Bool, true, false}
use mathlib.Core.List.{List}
use Prim.Native.Nat.{ℕ, zero, suc, ◌<◌}
use lib.Dec.{eqb}
use lib.ListN.{length}
use borrow.Author.Tests.{eqb-true, eq-eqb}
use Rattle.plain.specs.Pick.{pick}
use Rattle.boards.specs.declared.Row.{Row}
use Rattle.boards.specs.Row.{rows_max, row_at}
use Rattle.plain.specs.Tests.{both, all_to}
use Rattle.boards.specs.Sound.{is_untimed, is_sound_row, is_new, is_sound}
use Rattle.boards.specs.Inner.Halves.{densities_fit, times_fit, densities_sound, times_sound}
use Rattle.plain.proofs.Tests.{all_to-same}

-- one row
row-halves : (r : Row) → is_sound_row r ≡ both (densities_fit r) (times_fit r)
unfolding is_sound_row densities_fit times_fit
row-halves r = by (eqb r.id 0) refl
  where
    -- without an id: its other zeros and its times decide
    bare : (b u : Bool) → pick (both b u) true false ≡ both (pick b true false) u
    bare true true = refl
    bare true false = refl
    bare false u = refl

    by : (i : Bool) → eqb r.id 0 ≡ i → is_sound_row r ≡ both (densities_fit r) (times_fit r)
    by true e = rw (eqb-true r.id 0 e) (bare (both (eqb r.nodes 0) (both (eqb r.sum 0) (eqb r.largest 0))) (is_untimed r))
    by false e = rw e

-- tests of each row, taken apart
swapped : (a b c : Bool) → both (both a b) c ≡ both (both a c) b
swapped true true c = both-self c
  where
    both-self : (c : Bool) → c ≡ both c true
    both-self true = refl
    both-self false = refl
swapped true false true = refl
swapped true false false = refl
swapped false b c = refl

all_to-both : (n : ℕ) (f g : ℕ → Bool) → all_to n (λ k. both (f k) (g k)) ≡ both (all_to n f) (all_to n g)
unfolding all_to
all_to-both zero f g = refl
all_to-both (suc n) f g = rw (all_to-both n f g) (apart (all_to n f) (all_to n g) (f n) (g n))
  where
    apart : (a b c d : Bool) → both (both a b) (both c d) ≡ both (both a c) (both b d)
    apart true true c d = refl
    apart true false true d = refl
    apart true false false d = refl
    apart false b c d = refl

-- so of a board
pub halves : (rows : List Row) → length rows ≡ rows_max → both (densities_sound rows) (times_sound rows) ≡ is_sound rows
unfolding is_sound
halves rows h = rw (eq-eqb (length rows) rows_max h) (sym (all_to-same rows_max _ _ each ∙ all_to-both rows_max (λ k. both (densities_fit (row_at rows k)) (is_new (λ i. (row_at rows i).id) k)) (λ k. times_fit (row_at rows k))))
  where
    each : (k : ℕ) → k < rows_max → both (is_sound_row (row_at rows k)) (is_new (λ i. (row_at rows i).id) k) ≡ both (both (densities_fit (row_at rows k)) (is_new (λ i. (row_at rows i).id) k)) (times_fit (row_at rows k))
    each k l = rw (row-halves (row_at rows k)) (swapped (densities_fit (row_at rows k)) (times_fit (row_at rows k)) (is_new (λ i. (row_at rows i).id) k))

-- as code that asks the second half only where the first holds has it
pub first_holds : (rows : List Row) → length rows ≡ rows_max → {s : Bool} → densities_sound rows ≡ true → s ≡ times_sound rows → s ≡ is_sound rows
first_holds rows h d t = rw (← (halves rows h), d) t

pub first-fails : (rows : List Row) → length rows ≡ rows_max → {s : Bool} → densities_sound rows ≡ false → s ≡ false → s ≡ is_sound rows
first-fails rows h d t = rw (← (halves rows h), d) t
