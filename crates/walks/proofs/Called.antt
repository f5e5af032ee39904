-- A call by the callee's contract alone, as steps of `types.Kit`'s calculus: what the caller brings stands at the head of its context, and once the call has returned what
-- the contract promises stands there, with the result's machine value to be stored.
-- Assumes `Logic`.
use mathlib.Core.List.{List, [], ◌∷◌}
use seplogic.Ra.Ura.{Ura}
use mir.Syntax.{Callee, Place, Body, seq, call, Opd as Operand}
use mir.Val.{Val}
use base.Logic.{SProp, ent, sep, emp, id⊢, via, mono_r}
use prog.Wp.{Env, Calls, Loops}
use types.Logic.{Logic}
use contract.Lifetimes.{Lfts, Shares, AllOutlive}
use contract.Monad.{fact}
use types.Kit.{Item, Post, Seq, runs, lands, ‵, raw, some, later, ◌⊛◌, ◌$◌, move, drop, use0, use1, use2, split, pick, await}
use types.Run.{Opds}
use sound.Laws.{∗emp}
use sound.WpLaws.{FmC}
use denote.RattleType.{RattleType, Denots, Valss, owns, flat}
use denote.Laws.{Is, Ises, Are, Makess, owns_make, shows}
use denote.Signature.{Slot, plain, type_at, types_at}
use denote.Steps.{facts, heard}
use denote.Triple.Statement.{Contract, Triple}
use denote.Triple.Call.{calls_at}
use denote.Triple.Clauses.{Ended, Clauses, Lasts, AtExit, at_exit, lasts, closing}
use denote.Triple.End.{Kepts}
use denote.Triple.Entry.{Args, Vals, alive, on_entry}
use denote.Triple.Spec.{triple_of}

-- T and c are the callee's; κs, qs, a and vss are what the caller picks: the lifetimes, the shares of their tokens, the arguments and their machine values
module _ {M : Type 1} {𝓤 : Ura M} (𝓛 : Logic 𝓤) (T : Ended) (c : Clauses 𝓤 T) (κs : Lfts T.signature.lifetimes) (qs : Shares T.signature.lifetimes) (a : Args T.signature κs) (vss : Vals T.signature κs) where
  open 𝓛 use {H}

  abbrev Con : Contract 𝓤
  Con = triple_of 𝓛 T.signature (closing 𝓛 T c)

  abbrev tokens : Item 𝓤
  tokens = raw (alive 𝓛 T.signature κs qs)

  abbrev R : RattleType
  R = type_at T.signature.result κs

  module _ {K : Type 0} {Γ : List (Item 𝓤)} {E : Env 𝓤 H} {C : Calls 𝓤 H} {Λ : Loops 𝓤 H} {p : Post 𝓤 H} {f : Callee} {xs : List Operand} {d : Place} {rest : Body} where
    -- any callee: it gets the tokens of its lifetimes and what its parameters own, and gives the tokens back, with the last values of its `&mut`s. Of the result, which is plain data, the relation to
    -- its machine value is enough
    pub calls_by : K → FmC 𝓤 H 𝓛.laws C → Triple 𝓤 (C f) Con → (bounds : AllOutlive T.signature.lifetimes T.signature.outlives κs) (g : (c κs a).ghost) → ent 𝓤 (emp 𝓤) ((c κs a).requires g)
        → ((i : Item 𝓤) → Opds K 𝓛 (i ∷ Γ) E xs (flat (types_at T.signature.params κs) vss))
        → (φ : R.Denot → Lasts T κs a → Type 0) → ((r : R.Denot) (ws : Lasts T κs a) → ent 𝓤 ((c κs a).ensures g r (at_exit T κs a ws)) (fact 𝓤 (φ r ws)))
        → ((w : Val) (r : R.Denot) (ws : Lasts T κs a) → Is R r (w ∷ []) → φ r ws → Seq K 𝓛 (‵ (lasts T κs a ws) ∷ tokens ∷ Γ) (lands C Λ E d w rest p))
        → Seq K 𝓛 (tokens ∷ ‵ (owns (types_at T.signature.params κs) a vss) ∷ Γ) (runs C Λ E (seq (call f xs d) rest) p)
    calls_by t fm known bounds g asked os φ promised k =
        let P : SProp 𝓤 = on_entry 𝓛 T.signature κs qs a vss in
        let y : Con.Ghost = ((κs, qs, bounds, a, vss), g) in
        use2 𝓛 (raw (Con.pre y)) (via 𝓤 (sep 𝓤 P (emp 𝓤)) (∗emp 𝓤 P) (mono_r 𝓤 P asked)) $ calls_at t fm Con known y (os _) (λ w.
        use1 𝓛 (later (some (λ (r : R.Denot). (tokens ⊛ ‵ (R.own_val r (w ∷ []))) ⊛ some (λ (ws : Lasts T κs a). ‵ (lasts T κs a ws) ⊛ raw ((c κs a).ensures g r (at_exit T κs a ws)))))) (id⊢ 𝓤 _) $
        await t tt $ pick t (λ r. split t $ move t (1 ∷ []) $ pick t (λ ws. split t $ move t (1 ∷ []) $ use1 𝓛 (raw (fact 𝓤 (φ r ws))) (promised r ws) $ heard t (φ r ws) (λ e.
        -- [what is said of the last values; the tokens and the result]
        move t (1 ∷ []) $ split t $ move t (1 ∷ []) $ facts t R (Is R) (shows 𝓛 R) r (w ∷ []) (λ is. move t (1 ∷ 0 ∷ []) $ k w r ws is e)))))

-- ps and ks are the callee's parameters, R is its result's type; a and vss are the arguments and their machine values
module _ {M : Type 1} {𝓤 : Ura M} (𝓛 : Logic 𝓤) (ps : List (Slot 0)) (ks : Kepts ps) (R : RattleType) where
  open 𝓛 use {H}

  abbrev T : Ended
  T = record { signature = record { lifetimes = 0; outlives = []; params = ps; result = plain (λ _. R) }; kept = ks }

  abbrev Ps : List RattleType
  Ps = types_at ps tt

  module _ (c : Clauses 𝓤 T) (a : Denots Ps) (vss : Valss Ps) {K : Type 0} {Γ : List (Item 𝓤)} {E : Env 𝓤 H} {C : Calls 𝓤 H} {Λ : Loops 𝓤 H} {p : Post 𝓤 H} {f : Callee} {xs : List Operand} {d : Place} {rest : Body} where
    -- a callee of plain values: it takes nothing from the context
    pub calls-plain : K → FmC 𝓤 H 𝓛.laws C → Triple 𝓤 (C f) (triple_of 𝓛 T.signature (closing 𝓛 T c)) → Makess 𝓛 Ps (Ises Ps) → Are Ps (Ises Ps) a vss → (g : (c tt a).ghost) → ent 𝓤 (emp 𝓤) ((c tt a).requires g)
        → ((i : Item 𝓤) → Opds K 𝓛 (i ∷ Γ) E xs (flat Ps vss))
        → (φ : R.Denot → Type 0) → ((r : R.Denot) (e : AtExit T tt) → ent 𝓤 ((c tt a).ensures g r e) (fact 𝓤 (φ r)))
        → ((w : Val) (r : R.Denot) → Is R r (w ∷ []) → φ r → Seq K 𝓛 Γ (lands C Λ E d w rest p))
        → Seq K 𝓛 Γ (runs C Λ E (seq (call f xs d) rest) p)
    calls-plain t fm known makes are g asked os φ promised k =
        use0 𝓛 (‵ (owns Ps a vss)) (owns_make 𝓛 Ps (Ises Ps) makes a vss are) $ use0 𝓛 (raw (emp 𝓤)) (id⊢ 𝓤 (emp 𝓤)) $
        calls_by 𝓛 T c tt tt a vss t fm known tt g asked os (λ r ws. φ r) (λ r ws. promised r (at_exit T tt a ws)) (λ w r ws is e. drop t $ drop t $ k w r is e)
