-- No step leaves the input: a number's bytes are bytes of the rest, so the place after it is at most the input's length.
use Prim.Native.Nat.{ℕ, zero, suc, ◌+◌, ◌-◌, ◌*◌, ◌%◌, ◌^◌, ◌≤◌, ◌<◌}
use mathlib.Core.Path.{◌≡◌, refl, sym, ap, ◌∙◌}
use mathlib.Core.Bool.{Bool, true, false, ◌&&◌}
use mathlib.Core.List.{List}
use native.Mathlib.Nat.{two-pow-succ, lt_of_lt_of_le, one-mul, mod-eq_of_lt}
use native.Mathlib.Numerals.{add-one}
use native.Mathlib.Omega.{arith}
use lib.ListN.{length, take, drop, length-drop}
use lib.Dec.{leb}
use lib.Pow.{pow-lt, pow_mono}
use borrow.Author.Tests.{leb-true}
use Rattle.plain.specs.Pick.{pick}
use Rattle.plain.proofs.Lists.{part-from}
use Rattle.std.specs.Prelude.{Result, Ok, Err}
use Rattle.numbers.specs.declared.Number.{Number}
use Rattle.numbers.specs.declared.Fault.{Fault}
use Rattle.numbers.specs.declared.Fault.TheVariants.{Ended, TooLong, NotShortest}
use Rattle.numbers.specs.Number.{number, worth, record_more}
use Rattle.numbers.proofs.Bounds.{value-bounded}
use Rattle.refusals.specs.Numbers.{bad_parent}
use Rattle.refusals.specs.Refusal.{refusal}
use Rattle.records.specs.Step.{Step, read, and_then}
use Rattle.records.specs.Ranged.{step_of, whole_in, ranged_in}
use Rattle.records.specs.Parents.{parents, parent_set}

-- a step inside an input of `size` bytes, with a value that is as P says
abbrev pub Inside : ℕ → (ℕ → Type 0) → Step → Type 0
Inside size P (Ok r) = P r.value × (r.next ≤ size)
Inside size P (Err r) = Unit

-- a step after a step
then-step : (size : ℕ) (P Q : ℕ → Type 0) (step : Step) (more : ℕ → ℕ → Step) → Inside size P step →
    ((v next : ℕ) → P v → next ≤ size → Inside size Q (more v next)) →
    Inside size Q (and_then Err step more)
unfolding and_then
then-step size P Q (Ok r) more i m = m r.value r.next i.0 i.1
then-step size P Q (Err r) more i m = tt

-- a step that read
pub read-inside : (size : ℕ) (P : ℕ → Type 0) (step : Step) (v next : ℕ) → step ≡ read v next → Inside size P step → P v × (next ≤ size)
read-inside size P step v next e i = rw e at i

-- what the number reader found in the part that it was handed ends inside the input
pub found_inside : (more : ℕ) (s : List ℕ) (at : ℕ) (found : Result Number Fault) → found ≡ number more (take (length s - at) (drop at s)) → at ≤ length s →
    (v n : ℕ) → found ≡ Ok (worth v n) → at + n ≤ length s
found_inside more s at found e h v n d =
    let b = value-bounded more (drop at s) v n (ap (number more) (sym (part-from at s)) ∙ sym e ∙ d) in
    omega (arith, b.within, length-drop at s)

-- a whole number, and one in its range
pub whole-inside : (more : ℕ) (s : List ℕ) (at : ℕ) → at ≤ length s → Inside (length s) (λ v. v < 128 ^ suc more) (whole_in more s at)
unfolding whole_in
whole-inside more s at h = by (number more (drop at s)) refl
  where
    by : (r : Result Number Fault) → number more (drop at s) ≡ r → Inside (length s) (λ v. v < 128 ^ suc more) (step_of (length s) at r)
    by (Ok r) e = let b = value-bounded more (drop at s) r.value r.length e in (b.value, omega (arith, b.within, length-drop at s))
    by (Err Ended) e = tt
    by (Err TooLong) e = tt
    by (Err (NotShortest r)) e = tt

pub ranged-inside : (more broken low high : ℕ) (s : List ℕ) (at : ℕ) → at ≤ length s →
    Inside (length s) (λ v. (low ≤ v) × (v ≤ high)) (ranged_in more broken low high s at)
unfolding ranged_in
ranged-inside more broken low high s at a =
    then-step (length s) _ _ _ _ (whole-inside more s at a) λ v next u h.
    by v next h (leb low v) (leb v high) refl refl
  where
    by : (v next : ℕ) → next ≤ length s → (l g : Bool) → leb low v ≡ l → leb v high ≡ g →
        Inside (length s) (λ v. (low ≤ v) × (v ≤ high)) (pick (l && g) (read v next) (Err (refusal broken at)))
    by v next h true true p q = ((leb-true low v p, leb-true v high q), h)
    by v next h true false p q = tt
    by v next h false true p q = tt
    by v next h false false p q = tt

-- a number that the code read and that passed its range
pub record Passed (more broken low high : ℕ) (s : List ℕ) (at v next : ℕ) : Type 0 where
  pub is : ranged_in more broken low high s at ≡ read v next
  pub least : low ≤ v
  pub most : v ≤ high
  pub inside : next ≤ length s

pub passed : (more broken low high : ℕ) (s : List ℕ) (at : ℕ) (found : Step) (v next : ℕ) →
    found ≡ ranged_in more broken low high s at → found ≡ read v next → at ≤ length s →
    Passed more broken low high s at v next
passed more broken low high s at found v next e d a =
    let q : ranged_in more broken low high s at ≡ read v next = sym e ∙ d in
    let i = read-inside (length s) (λ v. (low ≤ v) × (v ≤ high)) _ v next q (ranged-inside more broken low high s at a) in
    record { is = q; least = i.0.0; most = i.0.1; inside = i.1 }

-- a set of numbers below low has room for p
pub set_room : (set low p : ℕ) → set < 2 ^ low → low ≤ p → set + 2 ^ p < 2 ^ (p + 1)
set_room set low p h l = rw (add-one p, two-pow-succ p) (omega (arith, pow_mono l))

-- the word of p alone; a set's word has room for it
pub bit_word : (p : ℕ) → p < 64 → (1 * 2 ^ p) % 2 ^ 64 ≡ 2 ^ p
bit_word p h = ap (λ (w : ℕ). w % 2 ^ 64) (one-mul (2 ^ p)) ∙ mod-eq_of_lt (pow-lt h)

pub word_room : (set low p : ℕ) → set < 2 ^ low → low ≤ p → p < 64 → set + (1 * 2 ^ p) % 2 ^ 64 < 2 ^ 64
word_room set low p h l q = rw (bit_word p q) (lt_of_lt_of_le (set_room set low p h l) (pow_mono {i = p + 1} {j = 64} (omega arith)))

-- the set that the parents make holds only nodes below n
pub parents-inside : (k n low set : ℕ) (s : List ℕ) (at : ℕ) → 1 ≤ n → low ≤ n → set < 2 ^ low → at ≤ length s →
    Inside (length s) (λ v. v < 2 ^ n) (parents k n low set s at)
unfolding parents
parents-inside zero n low set s at o l h a = (lt_of_lt_of_le h (pow_mono l), a)
parents-inside (suc k) n low set s at o l h a =
    then-step (length s) _ _ _ _ (ranged-inside record_more bad_parent low (n - 1) s at a) λ p next i b.
    parents-inside k n (p + 1) (set + 2 ^ p) s next o (omega arith) (set_room set low p h i.0) b

pub parent_set-inside : (n : ℕ) (s : List ℕ) (at : ℕ) → 1 ≤ n → at ≤ length s → Inside (length s) (λ v. v < 2 ^ n) (parent_set n s at)
unfolding parent_set
parent_set-inside n s at o a =
    then-step (length s) _ _ _ _ (ranged-inside record_more bad_parent 0 n s at a) λ k next i b.
    parents-inside k n 0 0 s next o (omega arith) (omega arith) b
