-- The steps of `Locals` on a local that is found by an equation: a step needs only the type and the block, so it holds wherever the environment is not known by its entries.
-- Assumes `Logic`.
use mathlib.Core.Path.{◌≡◌, refl, sym, subst}
use Prim.Native.Nat.{ℕ, ◌<◌, ◌^◌}
use mathlib.Core.List.{List, []}
use seplogic.Ra.Ura.{Ura}
use base.Fraction.{full_share}
use lib.Dec.{T}
use mir.Syntax.{Ty, ty_ref, erased, Mutability, Body, seq, assign, place, copy, Rv as RValue}
use mir.Val.{Val, vptr, WT, has_ty}
use base.Fml.{Share, fat, froom}
use prog.Wp.{Env, Calls, Loops, Spot, spot_of}
use types.Logic.{Logic}
use types.Kit.{Item, ‵, nth, put, Post, runs, lands, Step, step, ◌$◌}
use types.Part.{agg}
use types.Run.{Reads, Writes, Opd, Rv, look, stop, from, load, init, assigns, land, and_then, no_more}
use denote.Slice.{slice_ty, slice_val}
use Rattle.walks.proofs.Locals.{member, elements}
use Rattle.walks.proofs.Slices.{lending}

-- room that is filled, at a spot that is that room's
fills-spot : {M : Type 1} {𝓤 : Ura M} {𝓛 : Logic 𝓤} {K : Type 0} {Γ : List (Item 𝓤)} → K → (n : ℕ) {s : Spot 𝓤 𝓛.H} {τ : Ty} {b : ℕ} {v : Val} → s ≡ (τ, b, 0) → nth 𝓛 n Γ ≡ ‵ (froom τ b 0)
    → T (has_ty τ v) × WT v → Writes K 𝓛 Γ s.0 s.1 s.2 v (put 𝓛 n (‵ (fat full_share τ b 0 v)) Γ)
fills-spot {𝓤 = 𝓤} {𝓛 = 𝓛} {K = K} {Γ = Γ} t n {τ = τ} {b = b} {v = v} at e wt = subst (λ (s : Spot 𝓤 𝓛.H). Writes K 𝓛 Γ s.0 s.1 s.2 v (put 𝓛 n (‵ (fat full_share τ b 0 v)) Γ)) (sym at) (init t n e wt)

module _ {M : Type 1} {𝓤 : Ura M} {𝓛 : Logic 𝓤} {K : Type 0} {Γ : List (Item 𝓤)} {E : Env 𝓤 𝓛.H} {i : ℕ} {τ : Ty} {b : ℕ} where
  -- as an operand: whatever reads its memory, and by the entry n
  open 𝓛 use {H}

  pub copied : K → {v : Val} → spot_of 𝓤 H E i ≡ (τ, b, 0) → Reads K 𝓛 Γ τ b 0 v → Opd K 𝓛 Γ E (copy (place i [])) v
  copied t {v} at r = load t (from t (stop t)) (subst (λ (s : Spot 𝓤 H). Reads K 𝓛 Γ s.0 s.1 s.2 v) (sym at) r)

  pub var-at : K → (n : ℕ) {q : Share} {v : Val} → spot_of 𝓤 H E i ≡ (τ, b, 0) → nth 𝓛 n Γ ≡ ‵ (fat q τ b 0 v) → Opd K 𝓛 Γ E (copy (place i [])) v
  var-at t n at e = copied t at (look t n e)

  module _ {C : Calls 𝓤 H} {Λ : Loops 𝓤 H} {p : Post 𝓤 H} {rest : Body} {v : Val} where
    pub gets-at : K → (n : ℕ) → spot_of 𝓤 H E i ≡ (τ, b, 0) → nth 𝓛 n Γ ≡ ‵ (froom τ b 0) → {rv : RValue} → Rv K 𝓛 Γ E rv v → T (has_ty τ v) × WT v
        → Step K 𝓛 (put 𝓛 n (‵ (fat full_share τ b 0 v)) Γ) (runs C Λ E rest p) Γ (runs C Λ E (seq (assign (place i []) rv) rest) p)
    gets-at t n at e r wt = assigns t r (from t (stop t)) (fills-spot t n at e wt)

    pub keeps-at : K → (n : ℕ) → spot_of 𝓤 H E i ≡ (τ, b, 0) → nth 𝓛 n Γ ≡ ‵ (froom τ b 0) → T (has_ty τ v) × WT v → Step K 𝓛 (put 𝓛 n (‵ (fat full_share τ b 0 v)) Γ) (runs C Λ E rest p) Γ (lands C Λ E (place i []) v rest p)
    keeps-at t n at e wt = land t (from t (stop t)) (fills-spot t n at e wt)

module _ {M : Type 1} {𝓤 : Ura M} {𝓛 : Logic 𝓤} {K : Type 0} {Γ : List (Item 𝓤)} {E : Env 𝓤 𝓛.H} {C : Calls 𝓤 𝓛.H} {Λ : Loops 𝓤 𝓛.H} {p : Post 𝓤 𝓛.H} {rest : Body} where
  -- the slice at entry n lent on: the entries of the two locals, where it lies and the slice, are m and o
  open 𝓛 use {H}

  pub lends-on : K → (n m o : ℕ) {i j s : ℕ} {q : Share} {ρ σ τ : Ty} {μ : Mutability} {b d e c f size : ℕ}
      → spot_of 𝓤 H E i ≡ (slice_ty ρ, b, 0) → spot_of 𝓤 H E j ≡ (ty_ref erased μ σ, d, 0) → spot_of 𝓤 H E s ≡ (slice_ty (ty_ref erased μ σ), e, 0)
      → nth 𝓛 n Γ ≡ ‵ (fat q (slice_ty ρ) b 0 (slice_val (c, f) size)) → nth 𝓛 m Γ ≡ ‵ (froom (ty_ref erased μ σ) d 0)
      → (let Δ : List (Item 𝓤) = put 𝓛 m (‵ (fat full_share (ty_ref erased μ σ) d 0 (vptr c f))) Γ in
      nth 𝓛 n Δ ≡ ‵ (fat q (slice_ty ρ) b 0 (slice_val (c, f) size)) → nth 𝓛 m Δ ≡ ‵ (fat full_share (ty_ref erased μ σ) d 0 (vptr c f)) → nth 𝓛 o Δ ≡ ‵ (froom (slice_ty (ty_ref erased μ σ)) e 0)
      → size < 2 ^ 64 → Step K 𝓛 (put 𝓛 o (‵ (fat full_share (slice_ty (ty_ref erased μ σ)) e 0 (slice_val (c, f) size))) Δ) (runs C Λ E rest p) Γ (runs C Λ E (lending τ i j s rest) p))
  lends-on t n m o Slice-at from_at to_at slice from-room slice' from-here to_room fits = step (λ s.
      gets-at t m from_at from-room (elements t n Slice-at slice) (tt, tt) $
      gets-at t o to_at to_room (agg t (and_then t (var-at t m from_at from-here) (and_then t (member t n 1 Slice-at refl slice') (no_more t)))) (tt, (tt, (record { fits = fits }, tt))) $ s)
