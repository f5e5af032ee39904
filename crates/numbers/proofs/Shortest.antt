-- A value has one shortest form: below 128 it is its own sole byte; any other has v % 128 in its first byte, with the top bit set, and the
-- one form of v / 128 after it.
use Prim.Native.Nat.{ℕ, zero, suc, max, ◌+◌, ◌-◌, ◌*◌, ◌/◌, ◌%◌, ◌^◌, ◌≤◌, ◌<◌, suc-le-suc}
use mathlib.Core.Path.{◌≡◌, refl, sym, ap, subst, ◌∙◌}
use mathlib.Core.Logic.{◌⊎◌, inl, inr, ⊎_elim}
use mathlib.Core.Bool.{Bool, true, false}
use mathlib.Core.List.{List, [], ◌∷◌, ◌++◌}
use native.Mathlib.Nat.{le_of_suc-le-suc, pow-succ', pow-le-pow_right}
use native.Mathlib.Omega.{arith}
use lib.ListN.{length, take}
use lib.Dec.{ltb}
use borrow.Author.Tests.{lt-ltb, le-ltb, ltb-true, ltb-false}
use Rattle.std.specs.Prelude.{Ok}
use Rattle.std.proofs.lemmas.Nat.{pow-add}
use Rattle.plain.specs.Pick.{pick}
use Rattle.plain.proofs.Lists.{lt-or-ge}
use Rattle.numbers.specs.Number.{number, worth}
use Rattle.numbers.specs.Form.{Form, Whole}
use Rattle.numbers.specs.Shortest.{Bytes, shortest}
use Rattle.numbers.specs.Form.Form.{sole, first}
use Rattle.numbers.proofs.Forms.{form-some, read_whole}

-- what is written is a form
pub shortest-whole : (more v : ℕ) (s : List ℕ) → v < 128 ^ suc more → Whole more (shortest more v ++ s) v (length (shortest more v))
unfolding shortest
shortest-whole zero v s h = (sole h, omega arith)
shortest-whole (suc more) v s h = by (shortest-whole more (v / 128) s (omega (arith, pow-succ' 128 (suc more)))) (ltb v 128) refl
  where
    by : Whole more (shortest more (v / 128) ++ s) (v / 128) (length (shortest more (v / 128))) → (t : Bool) → ltb v 128 ≡ t →
        (let w = pick t (v ∷ []) ((128 + v % 128) ∷ shortest more (v / 128)) in Whole (suc more) (w ++ s) v (length w))
    by ih true e = (sole (ltb-true v 128 e), omega arith)
    by ih false e =
        let l = ltb-false v 128 e in
        let q : (128 + v % 128) % 128 + 128 * (v / 128) ≡ v = omega arith in
        (subst (λ (u : ℕ). Form ((128 + v % 128) ∷ shortest more (v / 128) ++ s) u (suc (length (shortest more (v / 128))))) q (first (omega arith) (omega arith) ih.0), suc-le-suc ih.1)

-- and a form is what is written
pub form-shortest : (more : ℕ) {s : List ℕ} {v n : ℕ} → Bytes s → Form s v n → n ≤ suc more →
    (n ≡ length (shortest more v)) × (take n s ≡ shortest more v)
unfolding shortest
form-shortest zero p (sole h) k = (refl, refl)
form-shortest (suc more) p (sole {b = b} h) k = rw (lt-ltb b 128 h) (refl, refl)
form-shortest zero p (first l z r) k = absurd (omega (arith, form-some r))
form-shortest (suc more) p (first {b = b} {v = v} l z r) k =
    let ih = form-shortest more (λ i. p (suc i)) r (le_of_suc-le-suc k) in
    let head : 128 + (b % 128 + 128 * v) % 128 ≡ b = omega (arith, p 0) in
    let tail : (b % 128 + 128 * v) / 128 ≡ v = omega arith in
    rw (le-ltb (b % 128 + 128 * v) 128 (omega arith), head, tail) (ap suc ih.0, ap (◌∷◌ b) ih.1)

-- a value read in shortest form is the only one with that value
pub only-form : (more : ℕ) (s t : List ℕ) (v n m : ℕ) → Bytes s → Bytes t →
    number more s ≡ Ok (worth v n) → number more t ≡ Ok (worth v m) → (n ≡ m) × (take n s ≡ take m t)
only-form more s t v n m p q e f =
    let a = read_whole more s v n e in let b = read_whole more t v m f in
    let x = form-shortest more p a.0 a.1 in let y = form-shortest more q b.0 b.1 in
    (x.0 ∙ sym y.0, x.1 ∙ sym y.1)

-- written from the front: a value below 128 is its last byte, any other has a byte more
pub shortest-last : (more v : ℕ) → v < 128 → shortest more v ≡ v ∷ []
unfolding shortest
shortest-last zero v h = refl
shortest-last (suc more) v h = rw (lt-ltb v 128 h)

pub shortest-next : (more v : ℕ) → 128 ≤ v → v < 128 ^ suc more →
    (m : ℕ) × (shortest more v ≡ (128 + v % 128) ∷ shortest m (v / 128)) × (v / 128 < 128 ^ suc m)
unfolding shortest
shortest-next zero v l h = absurd (omega arith)
shortest-next (suc more) v l h = (more, rw (le-ltb v 128 l), omega (arith, pow-succ' 128 (suc more)))

-- room for more groups changes nothing
pub shortest-fewer : (more room v : ℕ) → v < 128 ^ suc more → more ≤ room → shortest room v ≡ shortest more v
unfolding shortest
shortest-fewer zero room v h l = shortest-last room v h
shortest-fewer (suc more) zero v h l = absurd (omega arith)
shortest-fewer (suc more) (suc room) v h l =
    ap (λ (w : List ℕ). pick (ltb v 128) (v ∷ []) ((128 + v % 128) ∷ w)) (shortest-fewer more room (v / 128) (omega (arith, pow-succ' 128 (suc more))) (le_of_suc-le-suc l))

-- and no form has more
pub shortest-length : (more v : ℕ) → length (shortest more v) ≤ suc more
unfolding shortest
shortest-length zero v = omega arith
shortest-length (suc more) v = by (shortest-length more (v / 128)) (ltb v 128)
  where
    by : length (shortest more (v / 128)) ≤ suc more → (t : Bool) → length (pick t (v ∷ []) ((128 + v % 128) ∷ shortest more (v / 128))) ≤ suc (suc more)
    by ih true = omega arith
    by ih false = suc-le-suc ih

-- a byte for each seven bits: 2 ^ k is the greatest power of 2 in v
few-bits : (k v : ℕ) → v < 128 → 2 ^ k ≤ max v 1 → k / 7 ≡ 0
few-bits k v h l = by (lt-or-ge k 7)
  where
    by : (k < 7) ⊎ (7 ≤ k) → k / 7 ≡ 0
    by (inl s) = omega arith
    by (inr g) = absurd (omega (arith, pow-le-pow_right {n = 2} (omega arith) g))

pub shortest-bits : (more v k : ℕ) → v < 128 ^ suc more → 2 ^ k ≤ max v 1 → v < 2 * 2 ^ k → length (shortest more v) ≡ k / 7 + 1
unfolding shortest
shortest-bits zero v k h l g = omega (arith, few-bits k v h l)
shortest-bits (suc more) v k h l g = by (shortest-bits more (v / 128) (k - 7) (omega (arith, pow-succ' 128 (suc more)))) (lt-or-ge v 128)
  where
    by : (2 ^ (k - 7) ≤ max (v / 128) 1 → v / 128 < 2 * 2 ^ (k - 7) → length (shortest more (v / 128)) ≡ (k - 7) / 7 + 1) → (v < 128) ⊎ (128 ≤ v) →
        length (pick (ltb v 128) (v ∷ []) ((128 + v % 128) ∷ shortest more (v / 128))) ≡ k / 7 + 1
    by ih (inl s) = rw (lt-ltb v 128 s) (omega (arith, few-bits k v s l))
    by ih (inr s) =
        let many : 7 ≤ k = ⊎_elim (λ (f : k < 7). let low : k ≤ 6 = omega arith in absurd (omega (arith, pow-le-pow_right {n = 2} (omega arith) low))) (λ (m : 7 ≤ k). m) (lt-or-ge k 7) in
        let e : 7 + (k - 7) ≡ k = omega arith in
        let p : 2 ^ k ≡ 128 * 2 ^ (k - 7) = rw e at (pow-add 2 7 (k - 7)) in
        rw (le-ltb v 128 s) (omega (arith, ih (omega arith) (omega arith)))
