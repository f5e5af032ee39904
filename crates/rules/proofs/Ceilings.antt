-- A product against a product, divided: W is q × b + r, so a × W is at most b × n just where a × q, with a × r over b rounded up, is at most n.
use mathlib.Core.Path.{◌≡◌, sym, ◌∙◌}
use mathlib.Core.Logic.{⊎_elim}
use Prim.Native.Nat.{ℕ, ◌+◌, ◌*◌, ◌-◌, ◌/◌, ◌%◌, ◌^◌, ◌≤◌, ◌<◌}
use native.Mathlib.Nat.{mul-le-mul, mul-le-mul_right, div-add-mod', div-mul-le_self, lt-div-mul-add, lt_of_mul-lt-mul_right, mod-lt, div-le_self}
use native.Mathlib.Omega.{arith}
use lib.Dec.{leb}
use borrow.Author.Tests.{le-leb, lt-leb}
use Rattle.plain.proofs.Lists.{lt-or-ge}
use Rattle.tables.specs.Limits.{work_max}
use Rattle.shares.specs.Inner.Asked.{numerator_max}
use Rattle.shares.proofs.Products.{sort}

-- the test's left side
abbrev pub ceiling : (a b W : ℕ) → ℕ
ceiling a b W = a * (W / b) + (a * (W % b) + (b - 1)) / b

-- on plain numbers: c is a × r over b, rounded up
lifted : (a b q r c n : ℕ) → a * r ≤ c * b → a * q + c ≤ n → a * (q * b + r) ≤ b * n
lifted a b q r c n low h = simp sort (omega (arith, simp sort at low, simp sort at (mul-le-mul_right b h)))

lowered : (a b q r c n : ℕ) → c * b < a * r + b → a * (q * b + r) ≤ b * n → a * q + c ≤ n
lowered a b q r c n high h =
    let s : (a * q + c) * b < (n + 1) * b = simp sort (omega (arith, simp sort at high, simp sort at h)) in
    omega (arith, lt_of_mul-lt-mul_right b s)

-- the rounded quotient
module _ (x b : ℕ) (some : 0 < b) where
  enough : x ≤ (x + (b - 1)) / b * b
  enough = omega (arith, lt-div-mul-add {a = x + (b - 1)} {b = b} some)

  least : (x + (b - 1)) / b * b < x + b
  least = omega (arith, div-mul-le_self (x + (b - 1)) b)

pub ceiling-test : (a b W n : ℕ) → 0 < b → leb (ceiling a b W) n ≡ leb (a * W) (b * n)
ceiling-test a b W n some = ⊎_elim
    (λ (h : n < ceiling a b W). lt-leb _ _ h ∙ sym (lt-leb (a * W) (b * n) (above h)))
    (λ (h : ceiling a b W ≤ n). le-leb _ _ h ∙ sym (le-leb (a * W) (b * n) (below h)))
    (lt-or-ge n (ceiling a b W))
  where
    below : ceiling a b W ≤ n → a * W ≤ b * n
    below h = rw div-add-mod' at (lifted a b (W / b) (W % b) _ n (enough (a * (W % b)) b some) h)

    above : n < ceiling a b W → b * n < a * W
    above h = ⊎_elim
        (λ (l : b * n < a * W). l)
        (λ (l : a * W ≤ b * n). absurd (let e = lowered a b (W / b) (W % b) _ n (least (a * (W % b)) b some) (rw div-add-mod' l) in omega arith))
        (lt-or-ge (b * n) (a * W))

-- what is multiplied and added fits, where a is at most half of b
module _ (a C W : ℕ) (piece : a ≤ C) (low : 1 ≤ C) (high : C ≤ work_max) (whole : W ≤ numerator_max) where
  pub quotient_fits : a * (W / (2 * C)) ≤ numerator_max
  quotient_fits =
      let q = mul-le-mul_right (W / (2 * C)) piece in
      let d = simp sort at (div-mul-le_self W (2 * C)) in
      omega arith

  pub rest-fits : a * (W % (2 * C)) ≤ work_max * (2 * work_max)
  rest-fits =
      let p : a ≤ work_max = omega arith in
      let r : W % (2 * C) ≤ 2 * work_max = omega (arith, mod-lt W {m = 2 * C} (omega arith)) in
      mul-le-mul p r

  pub ceiling-fits : ceiling a (2 * C) W < 2 ^ 64
  ceiling-fits = omega (arith, quotient_fits, rest-fits, div-le_self (a * (W % (2 * C)) + (2 * C - 1)) (2 * C))

-- as the rule has the product
pub regrouped : (a Q T : ℕ) → a * (T * Q) ≡ a * Q * T
regrouped a Q T = simp sort
