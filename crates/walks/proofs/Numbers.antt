-- The numbers that a call is handed behind its slices, however many. A walk keeps their locals as one entry of its context, so its other entries stand where they would stand without them, and by recursion over how
-- many there are what holds of one number holds of all. Code may hand on any of them, or a literal: what fails then is the fact about the numbers.
-- Assumes `Logic`.
use mathlib.Core.Path.{◌≡◌, refl, ◌∙◌, ap, subst}
use Prim.Native.Nat.{ℕ, zero, suc, ◌-◌, ◌<◌, ◌^◌}
use mathlib.Core.List.{List, [], ◌∷◌, ◌++◌}
use lib.Dec.{lit<}
use lib.ListN.{length, get_or}
use seplogic.Ra.Ura.{Ura}
use base.Fraction.{full_share}
use mir.Syntax.{Ty, ty_int, Local, local, value_local, place, Opd as Operand, copy, int, int_neg, int_big, float, opd_true, opd_false, opd_unit, ptr_const, size_of, align_of, num_of, fn_addr, vtable, w64}
use mir.Val.{Val, vint}
use base.Logic.{SProp, ent, sep, emp, id⊢, via, mono_r, emp∗, snd∗}
use base.Fml.{ftrue, fat, froom, fdies}
use prog.Wp.{Heap, Env, spot_of, no_local, release}
use types.Logic.{Logic, sem}
use contract.Lifetimes.{Lfts, Within}
use types.Kit.{Item, ‵, raw, ◌⊛◌, mean, ⋆, nth, del, pop, sel⊢, unpull, Goal, allocs, passes, frees as freeing, aim, Seq, Step, step, ◌$◌, ◌∵◌, !, qed, by, move, use1, split, join, frame, done}
use types.Run.{Reads, Opd, Opds, look, init, and_then, no_more, alloc1, pass1, pass0}
use denote.RattleType.{RattleType, Denots, Valss, flat, owns}
use denote.Laws.{Ises, Are, Spells, valss, Tellss, Makess, owns_make}
use denote.Plain.{uint_Makes, uint_vals, uint_Tells}
use denote.Builtin.{u64}
use denote.Signature.{Slot, plain, types_at}
use denote.Steps.{nothing}
use denote.Triple.End.{Fins, all}
use denote.Triple.Walked.{Stays, AllGo, fits_of, has_of, stay_dropped, Goes-dropped}
use denote.Exit.{yes}
use Rattle.walks.proofs.Locals.{Slot as LocalSlot, env_of, empties, over}
use Rattle.walks.proofs.Told.{Hands, handed, handed-fits, hands}
use Rattle.walks.proofs.Found.{copied}

-- a number's type
abbrev word : Ty
word = ty_int w64

-- k numbers, and number i of them
abbrev pub Numbers : ℕ → Type 0
Numbers zero = Unit {0}
Numbers (suc k) = ℕ × Numbers k

abbrev pub number : (k : ℕ) → Numbers k → ℕ → ℕ
number zero ns i = 0
number (suc k) ns zero = ns.0
number (suc k) ns (suc i) = number k ns.1 i

-- ---- as parameters, in a signature of n lifetimes
module _ (n : ℕ) where
  abbrev pub slots : ℕ → List (Slot n)
  slots zero = []
  slots (suc k) = plain (λ _. u64) ∷ slots k

  -- a walk has nothing of them at exit
  abbrev pub stays : (k : ℕ) → Stays (slots k) (all yes (slots k))
  stays zero = tt
  stays (suc k) = (stay_dropped (plain (λ _. u64)) yes, stays k)

  module _ (κs : Lfts n) where
    abbrev pub u64s : ℕ → List RattleType
    u64s k = types_at (slots k) κs

    -- the numbers as arguments, and back
    abbrev pub denots : (k : ℕ) → Numbers k → Denots (u64s k)
    denots zero ns = tt
    denots (suc k) ns = (ns.0, denots k ns.1)

    abbrev pub numbers_of : (k : ℕ) → Denots (u64s k) → Numbers k
    numbers_of zero a = tt
    numbers_of (suc k) a = (a.0, numbers_of k a.1)

    pub same_numbers : (k : ℕ) (ns : Numbers k) → numbers_of k (denots k ns) ≡ ns
    same_numbers zero ns = refl
    same_numbers (suc k) ns = ap (λ (ms : Numbers k). (ns.0, ms)) (same_numbers k ns.1)

    -- their machine values
    abbrev pub spells : (k : ℕ) → Spells (u64s k)
    spells zero = tt
    spells (suc k) = (uint_vals w64, spells k)

    abbrev pub spelled : (k : ℕ) → Denots (u64s k) → Valss (u64s k)
    spelled k a = valss (u64s k) (spells k) a

    pub tells : (k : ℕ) → Tellss (u64s k) (Ises (u64s k)) (spells k)
    tells zero = tt
    tells (suc k) = (uint_Tells w64, tells k)

    -- each fits a word
    abbrev pub Fit : (k : ℕ) → Denots (u64s k) → Type 0
    Fit k a = Are (u64s k) (Ises (u64s k)) a (spelled k a)

    pub each_fits : (k : ℕ) (a : Denots (u64s k)) → Fit k a → (i : ℕ) → number k (numbers_of k a) i < 2 ^ 64
    each_fits zero a fit i = lit< tt
    each_fits (suc k) a fit zero = fit.0.1
    each_fits (suc k) a fit (suc i) = each_fits k a.1 fit.1 i

    -- what is bound for them at exit
    abbrev pub fins : (k : ℕ) (a : Denots (u64s k)) → Fins κs (slots k) (all yes (slots k)) a
    fins zero a = tt
    fins (suc k) a = (tt, fins k a.1)

    pub fins-fit : (k : ℕ) (a : Denots (u64s k)) → fits_of κs (slots k) (all yes (slots k)) (stays k) a (fins k a)
    fins-fit zero a = tt
    fins-fit (suc k) a = (tt, fins-fit k a.1)

  module _ {M : Type 1} {𝓤 : Ura M} (𝓛 : Logic 𝓤) where
    -- what they own is had for nothing
    makes : (κs : Lfts n) (k : ℕ) → Makess 𝓛 (u64s κs k) (Ises (u64s κs k))
    makes κs zero = tt
    makes κs (suc k) = (uint_Makes 𝓛 w64, makes κs k)

    pub owned-all : (κs : Lfts n) (k : ℕ) (a : Denots (u64s κs k)) → Fit κs k a → ent 𝓤 (emp 𝓤) (sem 𝓛 (owns (u64s κs k) a (spelled κs k a)))
    owned-all κs k a fit = owns_make 𝓛 (u64s κs k) (Ises (u64s κs k)) (makes κs k) a (spelled κs k a) fit

    -- and so is what is said of them at exit
    pub had : (κs : Lfts n) (k : ℕ) (a : Denots (u64s κs k)) (vss : Valss (u64s κs k)) → ent 𝓤 (emp 𝓤) (sem 𝓛 (has_of κs (slots k) (all yes (slots k)) (stays k) a (fins κs k a) vss))
    had κs zero a vss = id⊢ 𝓤 (emp 𝓤)
    had κs (suc k) a vss = via 𝓤 (sep 𝓤 (emp 𝓤) (emp 𝓤)) (emp∗ 𝓤 (emp 𝓤)) (mono_r 𝓤 (emp 𝓤) (had κs k a.1 vss.1))

    pub goes : (k : ℕ) → AllGo 𝓛 n (slots k) (all yes (slots k)) (stays k)
    goes zero = tt
    goes (suc k) = (Goes-dropped 𝓛 n (plain (λ _. u64)) yes (λ κs x f. refl), goes k)

-- ---- as locals: those of D, then the numbers in the blocks bs, then those of E
abbrev pub numbered : ℕ → List Local → List Local
numbered zero ls = ls
numbered (suc k) ls = local word value_local ∷ numbered k ls

-- what is number j behind k others; in unary, so that it computes where only k is known
abbrev pub behind : (k j : ℕ) → ℕ
behind zero j = j
behind (suc k) j = suc (behind k j)

-- where each is found
abbrev pub spots : (k : ℕ) → Numbers k → List (Ty × ℕ) → List (Ty × ℕ)
spots zero bs E = E
spots (suc k) bs E = (word, bs.0) ∷ spots k bs.1 E

module _ (none : Ty × ℕ) where
  past_first : (D E : List (Ty × ℕ)) (j : ℕ) → get_or (D ++ E) (behind (length D) j) none ≡ get_or E j none
  past_first [] E j = refl
  past_first (e ∷ D) E j = past_first D E j

  number-spot : (k : ℕ) (bs : Numbers k) (E : List (Ty × ℕ)) (i : ℕ) → Within k i → get_or (spots k bs E) i none ≡ (word, number k bs i)
  number-spot zero bs E i ok = absurd ok
  number-spot (suc k) bs E zero ok = refl
  number-spot (suc k) bs E (suc i) ok = number-spot k bs.1 E i ok

  past-numbers : (k : ℕ) (bs : Numbers k) (E : List (Ty × ℕ)) (j : ℕ) → get_or (spots k bs E) (behind k j) none ≡ get_or E j none
  past-numbers zero bs E j = refl
  past-numbers (suc k) bs E j = past-numbers k bs.1 E j

-- local j of those behind the numbers
pub found : {M : Type 1} (𝓤 : Ura M) (H : Heap 𝓤) (D : Env 𝓤 H) (k : ℕ) (bs : Numbers k) (E : Env 𝓤 H) (j : ℕ) → spot_of 𝓤 H (D ++ spots k bs E) (behind (length D) (behind k j)) ≡ spot_of 𝓤 H E j
found 𝓤 H D k bs E j = ap (λ (s : Ty × ℕ). (s.0, s.1, 0)) (past_first (no_local 𝓤 H) D (spots k bs E) (behind k j) ∙ past-numbers (no_local 𝓤 H) k bs E j)

module _ {M : Type 1} {𝓤 : Ura M} where
  -- the numbers' memory as one entry, empty, and with the numbers ns
  abbrev pub Rooms : (k : ℕ) → Numbers k → Item 𝓤
  Rooms zero bs = ‵ ftrue
  Rooms (suc k) bs = (Rooms k bs.1 ⊛ ‵ (froom word bs.0 0)) ⊛ ‵ (fdies word bs.0)

  abbrev pub Cells : (k : ℕ) → Numbers k → Numbers k → Item 𝓤
  Cells zero bs ns = ‵ ftrue
  Cells (suc k) bs ns = (Cells k bs.1 ns.1 ⊛ ‵ (fat full_share word bs.0 0 (vint w64 ns.0))) ⊛ ‵ (fdies word bs.0)

module _ {M : Type 1} {𝓤 : Ura M} {𝓛 : Logic 𝓤} {K : Type 0} where
  -- the locals before the numbers are allocated, and the numbers
  open 𝓛 use {H}

  pub allocates-first : K → (ls ls' : List Local) {Γ : List (Item 𝓤)} {Kt : Env 𝓤 H → Goal 𝓤 H}
      → ((bs : Numbers (length ls)) → (let ss : List LocalSlot = empties ls (number (length ls) bs) in Seq K 𝓛 (over ss Γ) (allocs ls' (λ E. Kt (env_of ss ++ E))))) → Seq K 𝓛 Γ (allocs (ls ++ ls') Kt)
  allocates-first t [] ls' go = go tt
  allocates-first t (local τ h ∷ ls) ls' go = alloc1 t (λ b. allocates-first t ls ls' (λ bs. go (b, bs)))

  pub allocates-numbers : K → (k : ℕ) {Γ : List (Item 𝓤)} {ls : List Local} {Kt : Env 𝓤 H → Goal 𝓤 H} → ((bs : Numbers k) → Seq K 𝓛 (Rooms k bs ∷ Γ) (allocs ls (λ E. Kt (spots k bs E)))) → Seq K 𝓛 Γ (allocs (numbered k ls) Kt)
  allocates-numbers t zero go = nothing t $ go tt
  allocates-numbers t (suc k) go = alloc1 t (λ b. allocates-numbers t k (λ bs. join t $ join t $ go (b, bs)))

  -- the arguments a are stored
  pub passes-numbers : K → (n : ℕ) (κs : Lfts n) (k : ℕ) (bs : Numbers k) (a : Denots (u64s n κs k)) → Fit n κs k a → (E : Env 𝓤 H) {Γ : List (Item 𝓤)} {g : Goal 𝓤 H}
      → Step K 𝓛 (Cells k bs (numbers_of n κs k a) ∷ Γ) g (Rooms k bs ∷ Γ) (passes (spots k bs E) (flat (u64s n κs k) (spelled n κs k a)) g)
  passes-numbers t n κs zero bs a fit E = pass0 t
  passes-numbers t n κs (suc k) bs a fit E = step (λ s. split t $ split t $ pass1 t (init t 1 refl (tt, record { fits = fit.0.1 })) $ passes-numbers t n κs k bs.1 a.1 fit.1 E $ join t $ join t $ s)

module _ {M : Type 1} {𝓤 : Ura M} (𝓛 : Logic 𝓤) (E : Env 𝓤 𝓛.H) (P : SProp 𝓤) where
  open 𝓛 use {H}

  go-first : (k : ℕ) (bs ns : Numbers k) → ent 𝓤 (sep 𝓤 (mean 𝓛 (Cells k bs ns)) (release 𝓤 H E P)) (release 𝓤 H (spots k bs E) P)
  go-first zero bs ns = snd∗ 𝓤 (emp 𝓤) (release 𝓤 H E P)
  go-first (suc k) bs ns =
      qed 𝓛 (Cells (suc k) bs ns ∷ raw (release 𝓤 H E P) ∷ []) ∵ split ! $ split ! $ move ! (1 ∷ 2 ∷ []) $
      use1 𝓛 (‵ (froom word bs.0 0)) (𝓛.laws.at_room word bs.0 0 (vint w64 ns.0)) $ join ! $ frame ! $ by ! (go-first k bs.1 ns.1)

  go-between : (D : Env 𝓤 H) (k : ℕ) (bs ns : Numbers k) → ent 𝓤 (sep 𝓤 (mean 𝓛 (Cells k bs ns)) (release 𝓤 H (D ++ E) P)) (release 𝓤 H (D ++ spots k bs E) P)
  go-between [] k bs ns = go-first k bs ns
  go-between (e ∷ D) k bs ns =
      qed 𝓛 (Cells k bs ns ∷ ((‵ (froom e.0 e.1 0) ⊛ ‵ (fdies e.0 e.1)) ⊛ raw (release 𝓤 H (D ++ E) P)) ∷ []) ∵ move ! (1 ∷ []) $ split ! $ frame ! $ move ! (1 ∷ 0 ∷ []) $ by ! (go-between D k bs ns)

module _ {M : Type 1} {𝓤 : Ura M} {𝓛 : Logic 𝓤} {K : Type 0} where
  -- the numbers are freed, before the other locals
  open 𝓛 use {H}

  pub frees-numbers : K → (D : Env 𝓤 H) (k : ℕ) (bs ns : Numbers k) (E : Env 𝓤 H) {Γ : List (Item 𝓤)} {g : Goal 𝓤 H} → Step K 𝓛 Γ (freeing (D ++ E) g) (Cells k bs ns ∷ Γ) (freeing (D ++ spots k bs E) g)
  frees-numbers t D k bs ns E {Γ} {g} = step (λ s. record {
    prf = via 𝓤 _ (pop 𝓛 (Cells k bs ns) Γ) (via 𝓤 _ (mono_r 𝓤 (mean 𝓛 (Cells k bs ns)) s.prf) (go-between 𝓛 E (aim 𝓤 H g) D k bs ns));
  })

  -- number i is read: what is in an entry's parts is in the entry, wherever it stands
  in_parts : K → {Γ : List (Item 𝓤)} {i j l : Item 𝓤} {τ : Ty} {b o : ℕ} {v : Val} → Reads K 𝓛 (i ∷ j ∷ l ∷ Γ) τ b o v → Reads K 𝓛 (((i ⊛ j) ⊛ l) ∷ Γ) τ b o v
  in_parts t {Γ} {i} {j} {l} r = record {
    go = λ Kt h. via 𝓤 (⋆ 𝓛 (i ∷ j ∷ l ∷ Γ)) (qed 𝓛 (((i ⊛ j) ⊛ l) ∷ Γ) ∵ split ! $ split ! $ done !) (r.go Kt (via 𝓤 _ (qed 𝓛 (i ∷ j ∷ l ∷ Γ) ∵ join ! $ join ! $ done !) h));
  }

  in-numbers : K → (k : ℕ) (bs ns : Numbers k) (i : ℕ) → Within k i → {Γ : List (Item 𝓤)} → Reads K 𝓛 (Cells k bs ns ∷ Γ) word (number k bs i) 0 (vint w64 (number k ns i))
  in-numbers t zero bs ns i ok = absurd ok
  in-numbers t (suc k) bs ns zero ok = in_parts t (look t 1 refl)
  in-numbers t (suc k) bs ns (suc i) ok = in_parts t (in-numbers t k bs.1 ns.1 i ok)

  at_entry : K → {Γ : List (Item 𝓤)} (n : ℕ) {j : Item 𝓤} {τ : Ty} {b o : ℕ} {v : Val} → nth 𝓛 n Γ ≡ j → Reads K 𝓛 (j ∷ del 𝓛 n Γ) τ b o v → Reads K 𝓛 Γ τ b o v
  at_entry t {Γ} n {j} e r =
      let Δ : List (Item 𝓤) = del 𝓛 n Γ in
      record {
        go = λ Kt h. via 𝓤 (⋆ 𝓛 (j ∷ Δ)) (subst (λ (i : Item 𝓤). ent 𝓤 (⋆ 𝓛 Γ) (⋆ 𝓛 (i ∷ Δ))) e (sel⊢ 𝓛 (n ∷ []) Γ))
            (r.go Kt (via 𝓤 _ (pop 𝓛 j Δ) (via 𝓤 _ (subst (λ (i : Item 𝓤). ent 𝓤 (sep 𝓤 (mean 𝓛 i) (⋆ 𝓛 Δ)) (⋆ 𝓛 Γ)) e (unpull 𝓛 n Γ)) h)));
      }

-- ---- handed on, by code with k numbers behind b locals
module _ (b k : ℕ) where
  -- the number that an operand copies; of a literal any is as good
  abbrev which : Operand → ℕ
  which (copy (place i ps)) = i - b
  which (int w n) = 0
  which (int_neg w n) = 0
  which (int_big w n) = 0
  which (float f n) = 0
  which opd_true = 0
  which opd_false = 0
  which opd_unit = 0
  which (ptr_const n) = 0
  which (size_of t) = 0
  which (align_of t) = 0
  which (num_of w t) = 0
  which (fn_addr f t) = 0
  which (vtable t u) = 0

  -- the operand copies one of the numbers, or it is a literal: by ((refl, refl), tt) for either
  abbrev pub HandsOne : Operand → Type 0
  HandsOne o = Hands (place (behind b (which o)) []) o × Within k (which o)

  abbrev pub handed_one : Operand → Numbers k → ℕ
  handed_one o ns = handed o (number k ns (which o))

  pub one-fits : (o : Operand) (ns : Numbers k) → HandsOne o → ((i : ℕ) → number k ns i < 2 ^ 64) → handed_one o ns < 2 ^ 64
  one-fits o ns h fits = handed-fits (place (behind b (which o)) []) o (number k ns (which o)) h.0 (fits (which o))

  -- m operands do so
  abbrev pub HandsAll : ℕ → List Operand → Type 0
  HandsAll zero [] = Unit {0}
  HandsAll zero (o ∷ os) = ⊥
  HandsAll (suc m) [] = ⊥
  HandsAll (suc m) (o ∷ os) = HandsOne o × HandsAll m os

  abbrev pub handed_all : (m : ℕ) → List Operand → Numbers k → Numbers m
  handed_all zero os ns = tt
  handed_all (suc m) [] ns = (0, handed_all m [] ns)
  handed_all (suc m) (o ∷ os) ns = (handed_one o ns, handed_all m os ns)

  pub all_fit : (n : ℕ) (κs : Lfts n) (m : ℕ) (os : List Operand) (ns : Numbers k) → HandsAll m os → ((i : ℕ) → number k ns i < 2 ^ 64) → Fit n κs m (denots n κs m (handed_all m os ns))
  all_fit n κs zero os ns h fits = tt
  all_fit n κs (suc m) [] ns h fits = absurd h
  all_fit n κs (suc m) (o ∷ os) ns h fits = ((refl, one-fits o ns h.0 fits), all_fit n κs m os ns h.1 fits)

-- the operands read, where entry e of the context is the numbers
module _ {M : Type 1} {𝓤 : Ura M} {𝓛 : Logic 𝓤} {K : Type 0} {Γ : List (Item 𝓤)} (t : K) (D : Env 𝓤 𝓛.H) (k : ℕ) (bs ns : Numbers k) (E : Env 𝓤 𝓛.H) (e : ℕ) (here : nth 𝓛 e Γ ≡ Cells k bs ns) where
  open 𝓛 use {H}

  pub hands-one : (o : Operand) → HandsOne (length D) k o → Opd K 𝓛 Γ (D ++ spots k bs E) o (vint w64 (handed_one (length D) k o ns))
  hands-one o h =
      let i : ℕ = which (length D) k o in
      hands t h.0 (copied t (ap (λ (s : Ty × ℕ). (s.0, s.1, 0)) (past_first (no_local 𝓤 H) D (spots k bs E) i ∙ number-spot (no_local 𝓤 H) k bs E i h.1)) (at_entry t e here (in-numbers t k bs ns i h.1)))

  pub hands-all : (n : ℕ) (κs : Lfts n) (m : ℕ) (os : List Operand) → HandsAll (length D) k m os → Opds K 𝓛 Γ (D ++ spots k bs E) os (flat (u64s n κs m) (spelled n κs m (denots n κs m (handed_all (length D) k m os ns))))
  hands-all n κs zero [] h = no_more t
  hands-all n κs zero (o ∷ os) h = absurd h
  hands-all n κs (suc m) [] h = absurd h
  hands-all n κs (suc m) (o ∷ os) h = and_then t (hands-one o h.0) (hands-all n κs m os h.1)
