-- A number case by case: each test that its reader makes on the bytes picks one clause of the definition.
use Prim.Native.Nat.{ℕ, zero, suc, ◌-◌, ◌≤◌, ◌<◌}
use mathlib.Core.Path.{◌≡◌, refl}
use mathlib.Core.Logic.{◌⊎◌, inl, inr}
use mathlib.Core.Bool.{Bool, true, false}
use mathlib.Core.List.{List, [], ◌∷◌}
use native.Mathlib.Omega.{arith}
use Rattle.std.specs.Prelude.{Result, Ok, Err}
use lib.ListN.{length, take, drop}
use lib.Dec.{ltb}
use borrow.Author.Tests.{lt-ltb, le-ltb, ltb-false, eq-eqb, ne_eqb}
use Rattle.plain.specs.At.{at}
use Rattle.plain.specs.Pick.{pick}
use Rattle.plain.proofs.Lists.{part-from}
use Rattle.numbers.specs.declared.Number.{Number}
use Rattle.numbers.specs.declared.Fault.{Fault}
use Rattle.numbers.specs.declared.Fault.TheVariants.{Ended, TooLong, NotShortest}
use Rattle.numbers.specs.Number.{before, joined, number, worth}

-- two constructors are never equal: `cc` proves 0 ≡ 1 of them, and that proves all
pub clash : {A : Type 0} → ◌≡◌ {A = ℕ} 0 1 → A
clash z = absurd (omega arith)

-- a number's first byte: none is there, it is the last, it is not
pub none : (more : ℕ) (s : List ℕ) → length s ≡ 0 → number more s ≡ Err Ended
unfolding number
none more [] h = refl
none more (b ∷ s) h = absurd (omega arith)

pub last : (more : ℕ) (s : List ℕ) → 0 < length s → at s 0 < 128 → number more s ≡ Ok (worth (at s 0) 1)
unfolding number
last more [] h l = absurd (omega arith)
last zero (b ∷ s) h l = rw (lt-ltb b 128 l)
last (suc more) (b ∷ s) h l = rw (lt-ltb b 128 l)

pub not_last : (more : ℕ) (s : List ℕ) → more ≡ 0 → 0 < length s → 128 ≤ at s 0 → number more s ≡ Err TooLong
unfolding number
not_last more [] z h l = absurd (omega arith)
not_last zero (b ∷ s) z h l = rw (le-ltb b 128 l)
not_last (suc more) (b ∷ s) z h l = absurd (omega arith)

-- one byte decides, unless more are needed
pub decided : (more : ℕ) (s : List ℕ) (r : Result Number Fault) → r ≡ number 0 s → (r ≡ Err TooLong → ⊥) → r ≡ number more s
unfolding number
decided more [] r e h = e
decided zero (b ∷ s) r e h = e
decided (suc more) (b ∷ s) r e h = by (ltb b 128) e
  where
    by : (t : Bool) → r ≡ pick t (Ok (worth b 1)) (Err TooLong) → r ≡ pick t (Ok (worth b 1)) (before b (number more s))
    by true d = d
    by false d = absurd (h d)

-- more are needed: the first byte has its top bit set
pub needs-more : (s : List ℕ) → number 0 s ≡ Err TooLong → (0 < length s) × (128 ≤ at s 0)
unfolding number
needs-more [] e = clash (cc)
needs-more (b ∷ s) e = (omega arith, by (ltb b 128) refl e)
  where
    by : (t : Bool) → ltb b 128 ≡ t → pick {A = Result Number Fault} t (Ok (worth b 1)) (Err TooLong) ≡ Err TooLong → 128 ≤ b
    by true q e = clash (cc)
    by false q e = ltb-false b 128 q

-- then the number is that byte before what comes after it
pub follows : (more : ℕ) (s : List ℕ) → 0 < more → 0 < length s → 128 ≤ at s 0 →
    number more s ≡ before (at s 0) (number (more - 1) (take (length s - 1) (drop 1 s)))
unfolding number
follows more [] z h l = absurd (omega arith)
follows zero (b ∷ s) z h l = absurd (omega arith)
follows (suc more) (b ∷ s) z h l = let p : suc more - 1 ≡ more = omega arith in rw (part-from 1 (b ∷ s), le-ltb b 128 l, p)

-- a byte before a rest worth 0, and before one worth more
pub before_none : (b : ℕ) (r : Number) → r.value ≡ 0 → before b (Ok r) ≡ Err (NotShortest (joined b r))
unfolding before
before_none b r e = simp (eq-eqb _ _ e)

pub before_some : (b : ℕ) (r : Number) → (r.value ≡ 0 → ⊥) → before b (Ok r) ≡ Ok (joined b r)
unfolding before
before_some b r d = simp (ne_eqb _ _ d)

-- a rest that ended or was too long stays so
pub before-cut : (b : ℕ) (r : Result Number Fault) → (r ≡ Err Ended) ⊎ (r ≡ Err TooLong) → before b r ≡ r
unfolding before
before-cut b r (inl h) = rw h
before-cut b r (inr h) = rw h

-- a byte with its top bit set before a number that is not 0; so a number of two bytes, and of three
pub longer : (more b : ℕ) (s : List ℕ) (r : Number) → 128 ≤ b → number more s ≡ Ok r → 0 < r.value → number (suc more) (b ∷ s) ≡ Ok (joined b r)
unfolding number
longer more b s r l d z = rw (le-ltb b 128 l, d) (before_some b r (λ q. omega arith))

pub two_bytes : (more : ℕ) (s : List ℕ) → 0 < more → 1 < length s → 128 ≤ at s 0 → 0 < at s 1 → at s 1 < 128 →
    number more s ≡ Ok (joined (at s 0) (worth (at s 1) 1))
two_bytes more [] m h p z l = absurd (omega arith)
two_bytes zero (b ∷ s) m h p z l = absurd (omega arith)
two_bytes (suc more) (b ∷ s) m h p z l = longer more b s _ p (last more s (omega arith) l) z

pub three_bytes : (more : ℕ) (s : List ℕ) → 1 < more → 2 < length s → 128 ≤ at s 0 → 128 ≤ at s 1 → 0 < at s 2 → at s 2 < 128 →
    number more s ≡ Ok (joined (at s 0) (joined (at s 1) (worth (at s 2) 1)))
three_bytes more [] m h p q z l = absurd (omega arith)
three_bytes zero (b ∷ s) m h p q z l = absurd (omega arith)
three_bytes (suc more) (b ∷ s) m h p q z l = longer more b s _ p (two_bytes more s (omega arith) (omega arith) q z l) (omega arith)
