-- A number that code hands on, by whichever operand: the one that stands at a place, or a literal. A walk over the operand also fits code that hands on another number, and what fails then is the fact about the
-- number.
-- Assumes `Logic`.
use mathlib.Core.Path.{◌≡◌, sym, subst}
use mathlib.Core.Bool.{Bool, true}
use mathlib.Core.List.{List}
use Prim.Native.Nat.{ℕ, ◌<◌, ◌^◌}
use lib.Dec.{T, ltb}
use borrow.Author.Tests.{ltb-true}
use seplogic.Ra.Ura.{Ura}
use mir.Syntax.{Place, Opd as Operand, copy, int, int_neg, int_big, float, opd_true, opd_false, opd_unit, ptr_const, size_of, align_of, num_of, fn_addr, vtable, w64}
use mir.Val.{vint}
use prog.Wp.{Env}
use types.Logic.{Logic}
use types.Kit.{Item}
use types.Run.{Opd, lit}

-- the number at the place, or this one
pub data Told : Type 0 where
  given : Told
  fixed : ℕ → Told

-- what an operand hands on; `Hands` takes the copies of one place and the literals
abbrev told_by : Operand → Told
told_by (copy p) = given
told_by (int w k) = fixed k
told_by (int_neg w k) = given
told_by (int_big w k) = given
told_by (float f k) = given
told_by opd_true = given
told_by opd_false = given
told_by opd_unit = given
told_by (ptr_const k) = given
told_by (size_of t) = given
told_by (align_of t) = given
told_by (num_of w t) = given
told_by (fn_addr f s) = given
told_by (vtable t s) = given

abbrev operand : Place → Told → Operand
operand p given = copy p
operand p (fixed k) = int w64 k

abbrev fits : Told → Bool
fits given = true
fits (fixed k) = ltb k (2 ^ 64)

abbrev number : Told → ℕ → ℕ
number given n = n
number (fixed k) n = k

-- the operand copies the place p, or it is a literal: by (refl, refl) for either
abbrev pub Hands : Place → Operand → Type 0
Hands p o = (o ≡ operand p (told_by o)) × (fits (told_by o) ≡ true)

-- the number that it hands on, where n stands at the place
abbrev pub handed : Operand → ℕ → ℕ
handed o n = number (told_by o) n

number_fits : (v : Told) (n : ℕ) → fits v ≡ true → n < 2 ^ 64 → number v n < 2 ^ 64
number_fits given n e l = l
number_fits (fixed k) n e l = ltb-true k (2 ^ 64) e

-- it fits a word as n does
pub handed-fits : (p : Place) (o : Operand) (n : ℕ) → Hands p o → n < 2 ^ 64 → handed o n < 2 ^ 64
handed-fits p o n h l = number_fits (told_by o) n h.1 l

module _ {M : Type 1} {𝓤 : Ura M} {𝓛 : Logic 𝓤} {K : Type 0} {Γ : List (Item 𝓤)} {E : Env 𝓤 𝓛.H} {p : Place} {n : ℕ} where
  says : K → (v : Told) → fits v ≡ true → Opd K 𝓛 Γ E (copy p) (vint w64 n) → Opd K 𝓛 Γ E (operand p v) (vint w64 (number v n))
  says t given e o = o
  says t (fixed k) e o = lit t (subst T (sym e) tt)

  -- the operand read, from the place read
  pub hands : K → {o : Operand} → Hands p o → Opd K 𝓛 Γ E (copy p) (vint w64 n) → Opd K 𝓛 Γ E o (vint w64 (handed o n))
  hands t {o} h r = subst (λ (x : Operand). Opd K 𝓛 Γ E x (vint w64 (handed o n))) (sym h.0) (says t (told_by o) h.1 r)
