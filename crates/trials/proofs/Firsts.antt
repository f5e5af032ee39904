-- Which rule is the first broken: the tests stand in one list, so the first that fails gives the number, and all before it hold.
use mathlib.Core.Path.{◌≡◌, refl, sym, ◌∙◌}
use mathlib.Core.Bool.{Bool, true, false}
use mathlib.Core.List.{List, [], ◌∷◌}
use Prim.Native.Nat.{ℕ, zero, suc, ◌+◌, ◌≤◌, ◌<◌, zero-le, suc-le-suc}
use native.Mathlib.Nat.{not-suc-le-zero, le_of_suc-le-suc}
use native.Mathlib.Omega.{arith}
use lib.ListN.{length, get_or}
use Rattle.plain.specs.Tests.{first_failed}
use Rattle.plain.proofs.Tests.{first-held, first-here}
use Rattle.rules.specs.Rules.{Held, over_fits, same_cut, shared_out, summed, followed, halved, thinned, rounded, first_broken}
use Rattle.trials.specs.Inner.Numbered.{test, Broken}

-- none fails of tests numbered from b + 1 on just where 0 comes out
none-fails : (b : ℕ) (tests : List Bool) → first_failed (suc b) tests ≡ 0 → (i : ℕ) → get_or tests i true ≡ true
unfolding first_failed
none-fails b [] e i = refl
none-fails b (true ∷ tests) e zero = refl
none-fails b (true ∷ tests) e (suc i) = none-fails (suc b) tests e i
none-fails b (false ∷ tests) e i = absurd (omega arith)

all_hold : (b : ℕ) (tests : List Bool) → ((i : ℕ) → i < length tests → get_or tests i true ≡ true) → first_failed b tests ≡ 0
unfolding first_failed
all_hold b [] h = refl
all_hold b (t ∷ tests) h = first-held b t tests (h 0 (suc-le-suc zero-le)) ∙ all_hold (suc b) tests (λ i l. h (suc i) (suc-le-suc l))

-- the first that fails
record First (tests : List Bool) (i : ℕ) : Type 0 where
  pub low : i < length tests
  pub here : get_or tests i true ≡ false
  pub before : (j : ℕ) → j < i → get_or tests j true ≡ true

first-fails : (b : ℕ) (tests : List Bool) → (first_failed (suc b) tests ≡ 0 → ⊥) → (i : ℕ) × (first_failed (suc b) tests ≡ suc b + i) × First tests i
unfolding first_failed
first-fails b [] n = absurd (n refl)
first-fails b (false ∷ tests) n = (0, omega arith, record { low = suc-le-suc zero-le; here = refl; before = λ j l. absurd (not-suc-le-zero l) })
first-fails b (true ∷ tests) n = go (first-fails (suc b) tests n)
  where
    go : (i : ℕ) × (first_failed (suc (suc b)) tests ≡ suc (suc b) + i) × First tests i → (i : ℕ) × (first_failed (suc (suc b)) tests ≡ suc b + i) × First (true ∷ tests) i
    go (i, e, f) = (suc i, omega arith, record { low = suc-le-suc f.low; here = f.here; before = past })
      where
        past : (j : ℕ) → j < suc i → get_or (true ∷ tests) j true ≡ true
        past zero l = refl
        past (suc j) l = f.before j (le_of_suc-le-suc l)

fails-first : (b : ℕ) (tests : List Bool) (i : ℕ) → First tests i → first_failed b tests ≡ b + i
unfolding first_failed
fails-first b [] i f = absurd (not-suc-le-zero f.low)
fails-first b (t ∷ tests) zero f = first-here b t tests f.here ∙ omega arith
fails-first b (t ∷ tests) (suc i) f =
    let rest = fails-first (suc b) tests i (record { low = le_of_suc-le-suc f.low; here = f.here; before = λ j l. f.before (suc j) (suc-le-suc l) }) in
    first-held b t tests (f.before 0 (suc-le-suc zero-le)) ∙ omega arith

-- the rules
module _ (h : Held) (w : List ℕ) where
  tests : List Bool
  tests = over_fits w ∷ same_cut h w ∷ shared_out h w ∷ summed h w ∷ followed h w ∷ halved h w ∷ thinned h w ∷ rounded h w ∷ []

  -- all are kept
  pub kept : first_broken h w ≡ 0 → (k : ℕ) → test h w k ≡ true
  unfolding first_broken tests
  kept e zero = refl
  kept e (suc i) = none-fails 0 tests e i

  pub all-kept : ((k : ℕ) → 1 ≤ k → k ≤ 8 → test h w k ≡ true) → first_broken h w ≡ 0
  unfolding first_broken tests
  all-kept f = all_hold 1 tests (λ i l. f (suc i) (suc-le-suc zero-le) l)

  -- one is broken
  pub broken-is : {k : ℕ} → first_broken h w ≡ k → (k ≡ 0 → ⊥) → Broken h w k
  unfolding first_broken tests
  broken-is {k} is n = go (first-fails 0 tests (λ z. n (sym is ∙ z)))
    where
      go : (i : ℕ) × (first_failed 1 tests ≡ 1 + i) × First tests i → Broken h w k
      go (i, e, f) =
          let q : k ≡ suc i = omega arith in
          rw q (record { low = suc-le-suc zero-le; high = f.low; here = f.here; before = before })
        where
          before : (j : ℕ) → 1 ≤ j → j < suc i → test h w j ≡ true
          before zero low l = refl
          before (suc j) low l = f.before j (le_of_suc-le-suc l)

  pub is-broken : (k : ℕ) → Broken h w k → first_broken h w ≡ k
  unfolding first_broken tests
  is-broken zero b = absurd (not-suc-le-zero b.low)
  is-broken (suc i) b = fails-first 1 tests i (record { low = b.high; here = b.here; before = λ j l. b.before (suc j) (suc-le-suc zero-le) (suc-le-suc l) }) ∙ omega arith
