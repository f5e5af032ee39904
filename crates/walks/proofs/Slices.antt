-- A slice that is lent on, what a reference to one owns, and the test of a number, as steps of `types.Kit`'s calculus. T is any type.
-- Assumes `Logic`.
use mathlib.Core.Path.{◌≡◌, refl}
use Prim.Native.Nat.{ℕ}
use mathlib.Core.Bool.{Bool, true, false, not}
use mathlib.Core.List.{List, [], ◌∷◌}
use lib.Dec.{T as Holds, eqb}
use lib.ListN.{length}
use seplogic.Ra.Ura.{Ura}
use mir.Syntax.{Ty, named, Body, seq, assign, cond, place, field, deref, copy, addr_of, aggregate, Opd as Operand}
use mir.Val.{Val, vbool}
use base.Fml.{Lft, Fml, fsep, fres}
use prog.Wp.{Env, Calls, Loops}
use types.Logic.{Logic}
use types.Kit.{Item, Post, Goal, Seq, Step, step, runs, ‵, ◌$◌, move, drop, use1, fsplit, fjoin, feq_i}
use types.Run.{Opd, branches}
use denote.Ref.{MutBor}
use denote.RattleType.{RattleType}
use denote.Slice.{mut_slice_vals, mut_slice_at, room, MutSlice, heres, coded_holeys, finally, res-finally}
use borrow.Author.Tests.{eqb-true, eqb-false}

-- the slice in local i, of elements of type τ, lent on: where it lies goes to local p, and the slice to local s
abbrev pub lending : Ty → (i p s : ℕ) → Body → Body
lending τ i p s rest = seq (assign (place p []) (addr_of (place i (field 0 ∷ deref τ ∷ [])))) (seq (assign (place s []) (aggregate (copy (place p []) ∷ copy (place i (field 1 ∷ [])) ∷ []))) rest)

-- a test that fails, and one that holds
is_false : (t : Bool) → Holds (not t) → t ≡ false
is_false true h = absurd h
is_false false h = refl

is_true : (t : Bool) → Holds (not (not t)) → t ≡ true
is_true true h = refl
is_true false h = absurd h

module _ {M : Type 1} {𝓤 : Ura M} {𝓛 : Logic 𝓤} {K : Type 0} {Γ : List (Item 𝓤)} where
  -- the branch on whether a number is m
  open 𝓛 use {H}

  pub same_or_not : K → {E : Env 𝓤 H} {C : Calls 𝓤 H} {Λ : Loops 𝓤 H} {q : Post 𝓤 H} {c : Operand} {a b : Body} (n m : ℕ) → Opd K 𝓛 Γ E c (vbool (not (eqb n m)))
      → ((n ≡ m → ⊥) → Seq K 𝓛 Γ (runs C Λ E a q)) → (n ≡ m → Seq K 𝓛 Γ (runs C Λ E b q)) → Seq K 𝓛 Γ (runs C Λ E (cond c a b) q)
  same_or_not t n m o isnt is = branches t o (λ h. isnt (eqb-false n m (is_false (eqb n m) h))) (λ h. is (eqb-true n m (is_true (eqb n m) h)))

  module _ {G : Goal 𝓤 H} (T : RattleType) (x : MutBor (List T.Denot)) where
    -- what a slice owns, without and with the equation that says its machine value
    pub without : K → {P : Fml} → Step K 𝓛 (‵ (fsep (room T (length x.now)) P) ∷ Γ) G (‵ (fsep (mut_slice_at T x (mut_slice_vals x)) P) ∷ Γ) G
    without t = step (λ s. fsplit t $ fsplit t $ drop t $ fjoin t $ s)

    pub with_value : K → {P : Fml} → Step K 𝓛 (‵ (fsep (mut_slice_at T x (mut_slice_vals x)) P) ∷ Γ) G (‵ (fsep (room T (length x.now)) P) ∷ Γ) G
    with_value t = step (λ s. fsplit t $ feq_i t (List Val) (mut_slice_vals x) (mut_slice_vals x) refl $ fjoin t $ fjoin t $ s)

    -- a `&mut` slice that is not used any more: its last list is the one that it has
    pub gives_up : K → {κ : Lft} {vs : List Val} → Step K 𝓛 (‵ (finally T x.ghost_name x.now) ∷ Γ) G (‵ ((MutSlice (named 0) κ T).own_val x vs) ∷ Γ) G
    gives_up t {κ} = step (λ s. fsplit t $ drop t $ fsplit t $ use1 𝓛 (‵ (fres x.ghost_name ((coded_holeys T).code (heres T x.now)))) (𝓛.names.obs-res x.ghost_name ((coded_holeys T).code (heres T x.now))) $
        use1 𝓛 (‵ (finally T x.ghost_name x.now)) (res-finally 𝓛 (named 0) κ T x.ghost_name x.now) $ move t (1 ∷ []) $ drop t $ s)
