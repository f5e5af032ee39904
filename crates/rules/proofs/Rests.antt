-- A sum compared by taking its terms away: what is left and the terms taken make up the whole, so a term that is more than what is left makes the
-- sum pass the whole, and in the end nothing is left just where the sum is the whole.
use mathlib.Core.Path.{◌≡◌, sym, ◌∙◌}
use mathlib.Core.Bool.{false}
use Prim.Native.Nat.{ℕ, zero, suc, ◌+◌, ◌-◌, ◌≤◌, ◌<◌, zero-le}
use native.Mathlib.Omega.{arith}
use lib.Dec.{eqb}
use borrow.Author.Tests.{eq-eqb, ne_eqb}
use Rattle.plain.specs.Sums.{sum_to}
use Rattle.plain.proofs.Sums.{sum_to-none, sum_to-more, sum-under}

-- of n terms the first j are taken away
pub record Rest (n : ℕ) (f : ℕ → ℕ) (whole j left : ℕ) : Type 0 where
  pub within : j ≤ n
  pub is : left + sum_to j f ≡ whole

pub rest_all : {n : ℕ} {f : ℕ → ℕ} {whole : ℕ} → Rest n f whole 0 whole
rest_all {f = f} = record { within = zero-le; is = omega (arith, sum_to-none f) }

module _ {n : ℕ} {f : ℕ → ℕ} {whole j left : ℕ} (r : Rest n f whole j left) where
  pub rest_more : {x : ℕ} → j < n → x ≡ f j → x ≤ left → Rest n f whole (j + 1) (left - x)
  rest_more l e h = record { within = omega arith; is = (let i = r.is in omega (arith, sum_to-more j f)) }

  pub rest-short : {x : ℕ} → j < n → x ≡ f j → left < x → false ≡ eqb (sum_to n f) whole
  rest-short l e h = sym (ne_eqb (sum_to n f) whole (λ q. let i = r.is in omega (arith, sum-under f j n l)))

  pub rest-none : n ≤ j → eqb left 0 ≡ eqb (sum_to n f) whole
  rest-none l = let e : j ≡ n = omega arith in go left (rw e at r.is)
    where
      go : (left : ℕ) → left + sum_to n f ≡ whole → eqb left 0 ≡ eqb (sum_to n f) whole
      go zero i = sym (eq-eqb (sum_to n f) whole (omega arith))
      go (suc left) i = ne_eqb (suc left) 0 (λ q. omega arith) ∙ sym (ne_eqb (sum_to n f) whole (λ q. omega arith))
