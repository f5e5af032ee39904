-- A function's locals, as steps of `types.Kit`'s calculus: all are allocated as a walk begins and freed as it ends, since letting a local go asks only that its memory is still there, and one is named by
-- the entry of the context at which it stands. A walk states its locals as a list of slots, in the code's order: the empty ones, with those filled by number that hold something.
-- Assumes `Logic`.
use mathlib.Core.Path.{◌≡◌, refl, sym, ap, subst}
use Prim.Native.Nat.{ℕ, zero, suc, ◌+◌, ◌-◌, ◌*◌}
use mathlib.Core.Option.{some}
use mathlib.Core.List.{List, [], ◌∷◌, ◌++◌}
use seplogic.Ra.Ura.{Ura}
use base.Fraction.{full_share}
use lib.Dec.{T}
use lib.ListN.{length}
use mir.Syntax.{Sym, Ty, Tys, ty_struct, Local, local, value_local, Fn, Body, seq, assign, place, deref, field, copy, addr_of, Rv as RValue}
use mir.Val.{Val, Vals, vptr, vstruct, WT, has_ty}
use mir.Fields.{get_v, set_v}
use base.Logic.{SProp, ent, sep, emp, id⊢, via, assoc∗, mono_l, mono_r, emp∗, snd∗}
use base.Fml.{Share, Fml, fat, froom, fdies}
use prog.Memory.{field_at}
use prog.Wp.{Heap, Env, Calls, Loops, Spot, spot_of, release}
use types.Logic.{Logic}
use types.Kit.{Item, ‵, raw, ⋆, nth, put, pop, ++⊢, ⊢++, Post, Goal, runs, lands, allocs, frees as freeing, aim, Seq, Step, step, ◌$◌, ◌∵◌, !, qed, move, frame, use1, use2, split, ◌⊛◌, by, join}
use types.Part.{Part, whole, sub, look_in}
use types.Run.{Reads, Opd, Rv, Walks, look, fld, hop, addr, init, stop, from, load, assigns, land, alloc1, alloc0}
use denote.Slice.{slice_ty, slice_val}

-- locals that are no memory of their own, by their types
abbrev pub values : List Ty → List Local
values [] = []
values (τ ∷ τs) = local τ value_local ∷ values τs

-- a function without bounds on its lifetimes
abbrev pub function : (lifetimes params : ℕ) → List Local → Body → Fn
function n k ls b = record { lifetimes = n; outlives = []; ty_params = []; givens = 0; params = k; locals = ls; body = b }

-- the number of parameter k
abbrev pub param : ℕ → ℕ
param k = suc k

-- and of local k of the others, behind parameters of the types τs: a parameter more renumbers none
abbrev pub temp : List Ty → ℕ → ℕ
temp τs k = suc (length τs) + k

-- the entries i, i + 1, .. , so many, and then others
abbrev pub range : (i many : ℕ) → List ℕ → List ℕ
range i zero js = js
range i (suc n) js = i ∷ range (suc i) n js

-- a local: its type and its block, with the value that it holds, or with what is known of its memory
pub data Slot : Type 1 where
  empty : Ty → ℕ → Slot
  holds : Ty → ℕ → Val → Slot
  spread : Ty → ℕ → Fml → Slot

abbrev type_of : Slot → Ty
type_of (empty τ b) = τ
type_of (holds τ b v) = τ
type_of (spread τ b F) = τ

abbrev block_of : Slot → ℕ
block_of (empty τ b) = b
block_of (holds τ b v) = b
block_of (spread τ b F) = b

-- where each is found
abbrev pub env_of : List Slot → List (Ty × ℕ)
env_of [] = []
env_of (s ∷ ss) = (type_of s, block_of s) ∷ env_of ss

-- local number k is allocated in block l k
abbrev pub Blocks : Type 0
Blocks = ℕ → ℕ

abbrev cons : ℕ → Blocks → Blocks
cons b l zero = b
cons b l (suc k) = l k

-- the locals as they are allocated
abbrev pub empties : List Local → Blocks → List Slot
empties [] l = []
empties (local τ h ∷ ls) l = empty τ (l 0) ∷ empties ls (λ k. l (suc k))

-- local k made anew, of its type and block
abbrev becomes : ℕ → (Ty → ℕ → Slot) → List Slot → List Slot
becomes k f [] = []
becomes zero f (s ∷ ss) = f (type_of s) (block_of s) ∷ ss
becomes (suc k) f (s ∷ ss) = s ∷ becomes k f ss

-- it holds a value
abbrev pub fills : ℕ → Val → List Slot → List Slot
fills k v ss = becomes k (λ τ b. holds τ b v) ss

-- or this is known of its memory, by its block
abbrev pub spreads : ℕ → (ℕ → Fml) → List Slot → List Slot
spreads k F ss = becomes k (λ τ b. spread τ b (F b)) ss

-- the parameters, from local k on, hold their arguments
abbrev pub passes : ℕ → List Val → List Slot → List Slot
passes k [] ss = ss
passes k (v ∷ vs) ss = fills k v (passes (suc k) vs ss)

-- the entry of local k of n, behind d others: the last local stands first, and each has its memory and its end
abbrev pub entry : (d n k : ℕ) → ℕ
entry d n k = d + 2 * (n - suc k)

-- and entry k of what stands behind them
abbrev pub past : (d n k : ℕ) → ℕ
past d n k = d + 2 * n + k

module _ {M : Type 1} {𝓤 : Ura M} where
  abbrev cell : Slot → Item 𝓤
  cell (empty τ b) = ‵ (froom τ b 0)
  cell (holds τ b v) = ‵ (fat full_share τ b 0 v)
  cell (spread τ b F) = ‵ F

  -- the context Γ with the locals in front of it, the last one first, as allocation leaves them
  abbrev pub over : List Slot → List (Item 𝓤) → List (Item 𝓤)
  over [] Γ = Γ
  over (s ∷ ss) Γ = over ss (cell s ∷ ‵ (fdies (type_of s) (block_of s)) ∷ Γ)

  -- the first k entries, and the others
  abbrev front : ℕ → List (Item 𝓤) → List (Item 𝓤)
  front zero Γ = []
  front (suc k) [] = []
  front (suc k) (i ∷ Γ) = i ∷ front k Γ

  abbrev back : ℕ → List (Item 𝓤) → List (Item 𝓤)
  back zero Γ = Γ
  back (suc k) [] = []
  back (suc k) (i ∷ Γ) = back k Γ

  -- behind the locals of E
  abbrev behind : List (Ty × ℕ) → List (Item 𝓤) → List (Item 𝓤)
  behind [] Γ = Γ
  behind (e ∷ E) Γ = behind E (back 2 Γ)

  cut_at : (k : ℕ) (Γ : List (Item 𝓤)) → front k Γ ++ back k Γ ≡ Γ
  cut_at zero Γ = refl
  cut_at (suc k) [] = refl
  cut_at (suc k) (i ∷ Γ) = ap (λ (Δ : List (Item 𝓤)). i ∷ Δ) (cut_at k Γ)

module _ {M : Type 1} {𝓤 : Ura M} {𝓛 : Logic 𝓤} {K : Type 0} where
  -- the blocks are picked, and each local is empty
  open 𝓛 use {H}

  pub allocates : K → {Γ : List (Item 𝓤)} {ls : List Local} {Kt : Env 𝓤 H → Goal 𝓤 H} → ((l : Blocks) → Seq K 𝓛 (over (empties ls l) Γ) (Kt (env_of (empties ls l)))) → Seq K 𝓛 Γ (allocs ls Kt)
  allocates t {ls = []} k = alloc0 t $ k (λ _. 0)
  allocates t {Γ = Γ} {ls = local τ h ∷ ls} {Kt = Kt} k = alloc1 t (λ b. allocates t {Γ = ‵ (froom τ b 0) ∷ ‵ (fdies τ b) ∷ Γ} {ls = ls} (λ l. k (cons b l)))

module _ {M : Type 1} (𝓤 : Ura M) (H : Heap 𝓤) where
  -- the locals of E, let go
  abbrev Gone : List (Ty × ℕ) → SProp 𝓤
  Gone E = release 𝓤 H E (emp 𝓤)

  gone-then : (E : List (Ty × ℕ)) (P : SProp 𝓤) → ent 𝓤 (sep 𝓤 (Gone E) P) (release 𝓤 H E P)
  gone-then [] P = snd∗ 𝓤 (emp 𝓤) P
  gone-then (e ∷ E) P =
      let R : SProp 𝓤 = sep 𝓤 (H.room e.0 e.1 zero) (H.dies e.0 e.1) in
      via 𝓤 (sep 𝓤 R (sep 𝓤 (Gone E) P)) (assoc∗ 𝓤 R (Gone E) P) (mono_r 𝓤 R (gone-then E P))

-- with the locals of D let go already, and those of the others in front of Γ: the locals of E are let go, and Γ' is left
pub record Lets {M : Type 1} {𝓤 : Ura M} (𝓛 : Logic 𝓤) (D : List (Ty × ℕ)) (Γ : List (Item 𝓤)) (E : List (Ty × ℕ)) (Γ' : List (Item 𝓤)) : Type 1 where
  pub go : ent 𝓤 (sep 𝓤 (Gone 𝓤 𝓛.H D) (⋆ 𝓛 Γ)) (sep 𝓤 (Gone 𝓤 𝓛.H E) (⋆ 𝓛 Γ'))

module _ {M : Type 1} {𝓤 : Ura M} {𝓛 : Logic 𝓤} where
  -- no local is left
  open 𝓛 use {H}

  pub none : {E : List (Ty × ℕ)} {Γ : List (Item 𝓤)} → Lets 𝓛 E Γ E Γ
  none {E} {Γ} = record { go = id⊢ 𝓤 (sep 𝓤 (Gone 𝓤 H E) (⋆ 𝓛 Γ)) }

  module _ {D E : List (Ty × ℕ)} {Γ Γ' : List (Item 𝓤)} {τ : Ty} {b : ℕ} where
    -- the next one is empty
    pub bare : Lets 𝓛 ((τ, b) ∷ D) Γ E Γ' → Lets 𝓛 D (‵ (froom τ b 0) ∷ ‵ (fdies τ b) ∷ Γ) E Γ'
    bare l = record {
      go = qed 𝓛 (raw (Gone 𝓤 H D) ∷ raw (⋆ 𝓛 (‵ (froom τ b 0) ∷ ‵ (fdies τ b) ∷ Γ)) ∷ []) ∵ move ! (1 ∷ []) $
          use1 𝓛 (‵ (froom τ b 0) ⊛ (‵ (fdies τ b) ⊛ raw (⋆ 𝓛 Γ))) (mono_r 𝓤 (H.room τ b 0) (pop 𝓛 (‵ (fdies τ b)) Γ)) $ split ! $ move ! (1 ∷ []) $ split ! $
          -- [dies; Γ; room; the others let go]
          move ! (2 ∷ 0 ∷ []) $ join ! $ move ! (0 ∷ 2 ∷ []) $ join ! $ by ! l.go;
    }

    -- the next one holds a value
    pub full : {v : Val} → Lets 𝓛 ((τ, b) ∷ D) Γ E Γ' → Lets 𝓛 D (‵ (fat full_share τ b 0 v) ∷ ‵ (fdies τ b) ∷ Γ) E Γ'
    full {v} l = record {
      go = via 𝓤 _ (mono_r 𝓤 (Gone 𝓤 H D) (mono_l 𝓤 (⋆ 𝓛 (‵ (fdies τ b) ∷ Γ)) (𝓛.laws.at_room τ b 0 v))) (bare l).go;
    }

  -- by `search letting depth 40`, whichever are full
  pub ruleset letting = (none, bare, full)

  -- the locals that stand behind the first k entries are freed
  pub frees : {K : Type 0} → K → {Γ : List (Item 𝓤)} {E : List (Ty × ℕ)} {g : Goal 𝓤 H} (k : ℕ) → Lets 𝓛 [] (back k Γ) E (behind E (back k Γ)) → Step K 𝓛 (front k Γ ++ behind E (back k Γ)) g Γ (freeing E g)
  frees t {Γ} {E} {g} k l = step (λ s. record {
    prf =
        let Γ' : List (Item 𝓤) = behind E (back k Γ) in
        via 𝓤 (sep 𝓤 (Gone 𝓤 H E) (aim 𝓤 H g))
        (qed 𝓛 (raw (⋆ 𝓛 Γ) ∷ []) ∵
        use1 𝓛 (raw (⋆ 𝓛 (front k Γ)) ⊛ raw (⋆ 𝓛 (back k Γ))) (subst (λ (Δ : List (Item 𝓤)). ent 𝓤 (⋆ 𝓛 Δ) (sep 𝓤 (⋆ 𝓛 (front k Γ)) (⋆ 𝓛 (back k Γ)))) (cut_at k Γ) (⊢++ 𝓛 (front k Γ) (back k Γ))) $ split ! $ move ! (1 ∷ []) $
        use1 𝓛 (raw (Gone 𝓤 H E) ⊛ raw (⋆ 𝓛 Γ')) (via 𝓤 _ (emp∗ 𝓤 (⋆ 𝓛 (back k Γ))) l.go) $ split ! $ frame ! $ move ! (1 ∷ 0 ∷ []) $
        use2 𝓛 (raw (⋆ 𝓛 (front k Γ ++ Γ'))) (++⊢ 𝓛 (front k Γ) Γ') $ by ! s.prf)
        (gone-then 𝓤 H E (aim 𝓤 H g));
  })

-- local number i with the value v, as an entry
abbrev has : {M : Type 1} (𝓤 : Ura M) (H : Heap 𝓤) → Env 𝓤 H → ℕ → Share → Val → Item 𝓤
has 𝓤 H E i q v = ‵ (fat q (spot_of 𝓤 H E i).0 (spot_of 𝓤 H E i).1 (spot_of 𝓤 H E i).2 v)

-- and empty
abbrev room : {M : Type 1} (𝓤 : Ura M) (H : Heap 𝓤) → Env 𝓤 H → ℕ → Item 𝓤
room 𝓤 H E i = ‵ (froom (spot_of 𝓤 H E i).0 (spot_of 𝓤 H E i).1 (spot_of 𝓤 H E i).2)

-- v is of its type
abbrev typed : {M : Type 1} (𝓤 : Ura M) (H : Heap 𝓤) → Env 𝓤 H → ℕ → Val → Type 0
typed 𝓤 H E i v = T (has_ty (spot_of 𝓤 H E i).0 v) × WT v

-- field k of the struct at entry n
inside : {M : Type 1} {𝓤 : Ura M} {𝓛 : Logic 𝓤} {K : Type 0} {Γ : List (Item 𝓤)} → K → (n k : ℕ) {q : Share} {ν : Sym} {τs : Tys} {b : ℕ} {vs : Vals} {τ : Ty} {d : ℕ}
    → field_at zero τs k ≡ some (τ, d) → nth 𝓛 n Γ ≡ ‵ (fat q (ty_struct ν τs) b 0 (vstruct vs)) → Reads K 𝓛 Γ τ b (0 + d) (get_v vs k)
inside {𝓤 = 𝓤} {𝓛 = 𝓛} {K = K} t n k {q} {ν} {τs} {b} {vs} {τ} {d} f e = look_in t n (subst (λ (j : Item 𝓤). Part K 𝓛 j q τ b (0 + d) (get_v vs k) (λ u. ‵ (fat q (ty_struct ν τs) b 0 (vstruct (set_v vs k u))))) (sym e) (sub t k f (whole t)))

module _ {M : Type 1} {𝓤 : Ura M} {𝓛 : Logic 𝓤} {K : Type 0} {Γ : List (Item 𝓤)} {E : Env 𝓤 𝓛.H} {i : ℕ} where
  -- the local at entry n, as an operand
  open 𝓛 use {H}

  pub var : K → (n : ℕ) {q : Share} {v : Val} → nth 𝓛 n Γ ≡ has 𝓤 H E i q v → Opd K 𝓛 Γ E (copy (place i [])) v
  var t n e = load t (from t (stop t)) (look t n e)

  module _ {C : Calls 𝓤 H} {Λ : Loops 𝓤 H} {p : Post 𝓤 H} {rest : Body} {v : Val} where
    -- an assignment to the empty local at entry n
    pub gets : K → (n : ℕ) → nth 𝓛 n Γ ≡ room 𝓤 H E i → {rv : RValue} → Rv K 𝓛 Γ E rv v → typed 𝓤 H E i v → Step K 𝓛 (put 𝓛 n (has 𝓤 H E i full_share v) Γ) (runs C Λ E rest p) Γ (runs C Λ E (seq (assign (place i []) rv) rest) p)
    gets t n e r wt = assigns t r (from t (stop t)) (init t n e wt)

    -- a call's result stored in the empty local at entry n
    pub keeps : K → (n : ℕ) → nth 𝓛 n Γ ≡ room 𝓤 H E i → typed 𝓤 H E i v → Step K 𝓛 (put 𝓛 n (has 𝓤 H E i full_share v) Γ) (runs C Λ E rest p) Γ (lands C Λ E (place i []) v rest p)
    keeps t n e wt = land t (from t (stop t)) (init t n e wt)

  -- field k of the struct in the local at entry n, as an operand
  pub member : K → (n k : ℕ) {q : Share} {ν : Sym} {τs : Tys} {b : ℕ} {vs : Vals} {τ : Ty} {d : ℕ} → spot_of 𝓤 H E i ≡ (ty_struct ν τs, b, 0) → field_at zero τs k ≡ some (τ, d) → nth 𝓛 n Γ ≡ ‵ (fat q (ty_struct ν τs) b 0 (vstruct vs)) → Opd K 𝓛 Γ E (copy (place i (field k ∷ []))) (get_v vs k)
  member t n k {b = b} {τ = τ} {d = d} at f e = load t (from t (subst (λ (sp : Spot 𝓤 H). Walks K 𝓛 Γ E sp (field k ∷ []) (τ, b, 0 + d)) (sym at) (fld t f (stop t)))) (inside t n k f e)

  -- where the elements of the slice in the local at entry n lie
  pub elements : K → (n : ℕ) {q : Share} {ρ : Ty} {b c o m : ℕ} {σ : Ty} → spot_of 𝓤 H E i ≡ (slice_ty ρ, b, 0) → nth 𝓛 n Γ ≡ ‵ (fat q (slice_ty ρ) b 0 (slice_val (c, o) m)) → Rv K 𝓛 Γ E (addr_of (place i (field 0 ∷ deref σ ∷ []))) (vptr c o)
  elements t n {q} {ρ} {b} {c} {o} {m} {σ} at e = addr t (from t (subst (λ (sp : Spot 𝓤 H). Walks K 𝓛 Γ E sp (field 0 ∷ deref σ ∷ []) (σ, c, o)) (sym at) (fld t refl (hop t (inside t n 0 refl e) (stop t)))))
