-- One element among several: an array in a local is its elements side by side, as a slice's are, so the steps of `denote.Index` serve both. R is any type with one machine value.
-- Assumes `Logic`.
use mathlib.Core.Path.{◌≡◌, refl, sym, subst}
use Prim.Native.Nat.{ℕ, ◌+◌, ◌<◌, ◌*◌, ◌^◌}
use native.Mathlib.Omega.{arith}
use native.Mathlib.Nat.{lt_of_le_of_lt, mul-le-mul_right, le_of_lt}
use mathlib.Core.List.{List, [], ◌∷◌}
use lib.ListN.{length}
use seplogic.Ra.Ura.{Ura}
use base.Fraction.{full_share}
use mir.Syntax.{Ty, ty_ptr, ty_array}
use mir.Val.{Val, vptr}
use base.Fml.{Fml, fsep, fat}
use types.Logic.{Logic}
use types.Kit.{Item, ‵, Goal, Seq, Step, step, ◌$◌, nth, put, rewrite, move, drop, use1, fsplit, fjoin, fpick, fpack, feq_i}
use types.Share.{arr_parts}
use denote.RattleType.{RattleType}
use denote.Laws.{Is, shows}
use denote.Memory.{cell_at, lone, part_at, part_of, shares}
use denote.Array.{Array, array_val}
use denote.ArrayMemory.{Single, Array-apart, Array-whole}
use denote.Index.{place, place_is, row}
use denote.Steps.{peeks}

-- the place of an element fits a usize: all elements have room
pub in-room : (s n i : ℕ) → n * s < 2 ^ 63 → i < n → i * s < 2 ^ 64
in-room s n i r l = lt_of_le_of_lt (mul-le-mul_right s (le_of_lt l)) (omega arith)

-- a pointer to element i, as the code computes it, points to the place by which `denote.Index` names the element
pub points : {M : Type 1} {𝓤 : Ura M} {𝓛 : Logic 𝓤} {K : Type 0} {Γ : List (Item 𝓤)} {G : Goal 𝓤 𝓛.H} → K → (n s o i : ℕ) {l b : ℕ}
    → nth 𝓛 n Γ ≡ ‵ (fat full_share ty_ptr l 0 (vptr b (i * s + o))) → Step K 𝓛 (put 𝓛 n (‵ (fat full_share ty_ptr l 0 (vptr b (place s o i)))) Γ) G Γ G
points t n s o i {l} {b} e = rewrite t n (λ (p : ℕ). ‵ (fat full_share ty_ptr l 0 (vptr b p))) (sym (place_is s o i)) e

module _ (R : RattleType) (n : ℕ) (xs : List R.Denot) (l : ℕ) where
  abbrev τ : Ty
  τ = ty_array (lone R.mir) n

  -- the array in its local, with what its elements own
  abbrev Whole : List Val → Fml
  Whole vs = fsep (cell_at full_share (τ ∷ []) vs l 0) ((Array R n).own_val xs vs)

  module _ {M : Type 1} {𝓤 : Ura M} {𝓛 : Logic 𝓤} {K : Type 0} {Γ : List (Item 𝓤)} {G : Goal 𝓤 𝓛.H} where
    -- the array's local as a row of elements
    pub array-out : K → Single R.mir → (v : Val) → Step K 𝓛 (‵ (row R full_share xs l 0) ∷ Γ) G (‵ (fat full_share τ l 0 v) ∷ ‵ ((Array R n).own_val xs (v ∷ [])) ∷ Γ) G
    unfolding part_of
    array-out t one v = step (λ s. use1 𝓛 (‵ (cell_at full_share (τ ∷ []) (v ∷ []) l 0)) (𝓛.laws.at_raw full_share τ l 0 v) $ fjoin t $ fpack t (List Val) Whole (v ∷ []) $
        use1 𝓛 (‵ ((arr_parts (shares R) n).part full_share xs l 0)) (Array-apart 𝓛 R full_share one n xs l 0) $ fsplit t $ drop t $ s)

    -- and the row as the array's local, at the machine value that its elements have
    pub array-in : K → length xs ≡ n → ((v : Val) → Is (Array R n) xs (v ∷ []) → Seq K 𝓛 (‵ (fat full_share τ l 0 v) ∷ Γ) G) → Seq K 𝓛 (‵ (row R full_share xs l 0) ∷ Γ) G
    unfolding part_of
    array-in t full k = feq_i t ℕ (length xs) n full $ fjoin t $ use1 𝓛 (‵ (part_at (Array R n) full_share xs l 0)) (Array-whole 𝓛 R full_share n xs l 0) $
        fpick t (λ vs. fsplit t $ move t (1 ∷ []) $ peeks t (Array R n) (Is (Array R n)) (shows 𝓛 (Array R n)) xs vs (λ is. drop t $
        rewrite t 0 (λ (us : List Val). ‵ (cell_at full_share (τ ∷ []) us l 0)) is.1.0.0 refl $ use1 𝓛 (‵ (fat full_share τ l 0 (array_val is.0))) (𝓛.laws.raw_at full_share τ l 0 (array_val is.0)) $
        k (array_val is.0) (subst (Is (Array R n) xs) is.1.0.0 is)))
