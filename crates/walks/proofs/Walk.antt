-- A function's walk, taken to its contract: whoever walks the MIR from what is there on entry to the triple in which a walk ends has shown that the code meets the contract,
-- since what is left of each parameter at exit is given up for what the contract says of it.
-- Assumes `Logic`.
use mathlib.Core.List.{List}
use seplogic.Ra.Ura.{Ura}
use mir.Syntax.{Fn}
use base.Logic.{ent, sep}
use prog.Wp.{WpFn, Tables}
use types.Logic.{Logic}
use contract.Lifetimes.{Lfts, Shares, AllOutlive}
use sound.WpLaws.{WpFn-mono}
use denote.RattleType.{RattleType, flat}
use denote.Laws.{Ises, Are, Spells, valss, Tellss}
use denote.Signature.{types_at}
use denote.Triple.Clauses.{Ended, Clauses, closing}
use denote.Triple.Entry.{Args, on_entry}
use denote.Triple.Spec.{Meets}
use denote.Triple.Walked.{Stays, AllGo, walk_of, walked, walk_Meets}

module _ {M : Type 1} {𝓤 : Ura M} (𝓛 : Logic 𝓤) (𝓣 : Tables 𝓤 𝓛.H) (f : Fn) (T : Ended) (c : Clauses 𝓤 T) (hs : Stays T.signature.params T.kept) where
  open 𝓛 use {H}

  abbrev Ps : Lfts T.signature.lifetimes → List RattleType
  Ps κs = types_at T.signature.params κs

  -- the code f meets the contract, by a walk at each choice of lifetimes, shares and arguments
  pub meets : AllGo 𝓛 T.signature.lifetimes T.signature.params T.kept hs
      → (sp : (κs : Lfts T.signature.lifetimes) → Spells (Ps κs)) → ((κs : Lfts T.signature.lifetimes) → Tellss (Ps κs) (Ises (Ps κs)) (sp κs))
      → ((κs : Lfts T.signature.lifetimes) (qs : Shares T.signature.lifetimes) (bounds : AllOutlive T.signature.lifetimes T.signature.outlives κs) (a : Args T.signature κs) (g : (c κs a).ghost)
      → Are (Ps κs) (Ises (Ps κs)) a (valss (Ps κs) (sp κs) a)
      → ent 𝓤 (sep 𝓤 (on_entry 𝓛 T.signature κs qs a (valss (Ps κs) (sp κs) a)) ((c κs a).requires g))
      (WpFn 𝓤 H 𝓣.C 𝓣.Λ f (flat (Ps κs) (valss (Ps κs) (sp κs) a)) ((walk_of 𝓛 T hs c).post ((κs, qs, bounds, a, valss (Ps κs) (sp κs) a), g))))
      → Meets 𝓛 T.signature (WpFn 𝓤 H 𝓣.C 𝓣.Λ f) (closing 𝓛 T c)
  meets gs sp tl walk = walk_Meets 𝓛 T hs gs c (WpFn 𝓤 H 𝓣.C 𝓣.Λ f) (WpFn-mono 𝓤 H 𝓛.laws 𝓣 f) (walked 𝓛 T hs c (WpFn 𝓤 H 𝓣.C 𝓣.Λ f) sp tl walk)
