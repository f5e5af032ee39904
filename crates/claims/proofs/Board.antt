-- Rows by their ids: an id has a row just where its place is one, and that is the lowest such row; of a sound board just the free rows have id 0.
use mathlib.Core.Path.{ap}
use mathlib.Core.List.{List}
use Prim.Native.Nat.{ℕ, ◌≤◌, ◌<◌}
use native.Mathlib.Omega.{arith}
use Rattle.plain.proofs.Lists.{one-least}
use Rattle.boards.specs.declared.Row.{Row}
use Rattle.boards.specs.Row.{rows_max}
use Rattle.boards.specs.Sound.{Sound}
use Rattle.boards.specs.Find.{place_of, free_at}
use Rattle.boards.proofs.Find.{place-before}
use Rattle.boards.proofs.Keeping.{place-stands, place-free}
use Rattle.claims.specs.Board.{HasId, IsFree, SomeRow, Lowest}
use Rattle.claims.proofs.Rule.{OneValue}

-- the lowest row with a property is one
pub one-lowest : (holds : ℕ → Type 0) → OneValue (Lowest holds)
one-lowest holds v w a b = one-least holds v w a.here a.before b.here b.before

module _ {rows : List Row} (s : Sound rows) where
  -- an id has a row just where its place is one
  pub some_id : (id : ℕ) → place_of id rows < rows_max → SomeRow (HasId rows id)
  some_id id h = (place_of id rows, h, place-stands s id h)

  pub no-id : (id : ℕ) → rows_max ≤ place_of id rows → SomeRow (HasId rows id) → ⊥
  no-id id h w = let l = w.1 in place-before id rows w.0 (omega arith) w.2

  -- its place is the lowest such row
  pub lowest-id : (id : ℕ) → place_of id rows < rows_max → Lowest (HasId rows id) (place_of id rows)
  lowest-id id h = record { within = h; here = place-stands s id h; before = place-before id rows }

  -- a row with id 0 is free
  pub some-free : free_at rows < rows_max → SomeRow (IsFree rows)
  some-free h = (free_at rows, h, place-free s h)

  pub no-free : rows_max ≤ free_at rows → SomeRow (IsFree rows) → ⊥
  no-free h w = no-id 0 h (w.0, w.1, ap (λ (r : Row). r.id) w.2)

  pub lowest-free : free_at rows < rows_max → Lowest (IsFree rows) (free_at rows)
  lowest-free h = record { within = h; here = place-free s h; before = λ i l e. place-before 0 rows i l (ap (λ (r : Row). r.id) e) }
