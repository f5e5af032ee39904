-- A record is given in one way: what is met is met by a walk that goes on by the number at its spot, and stays where nothing is expected; so two ends of it are one.
use Prim.Native.Nat.{ℕ, zero, suc, ◌+◌}
use mathlib.Core.Path.{◌≡◌, refl, sym, ap, ◌∙◌}
use mathlib.Core.List.{List}
use native.Mathlib.Nat.{add-zero, add-suc, add_comm}
use Rattle.tables.specs.declared.TaskTable.{TaskTable}
use Rattle.menders.specs.declared.Spot.{Spot}
use Rattle.menders.specs.Taken.{then_taken, any_form}
use Rattle.menders.specs.Given.{Next, after, Meets, Gives}
use Rattle.menders.specs.Given.Due.{edition}
use Rattle.menders.specs.Given.Next.{number, nothing}
use Rattle.menders.specs.Given.Meets.{begin, on}
use Rattle.menders.proofs.Cases.{then-read}
use Rattle.menders.proofs.Given.{number_read}

-- a spot, and what is expected there
record Stand : Type 0 where
  pub spot : Spot
  pub next : Next

module _ (s : List ℕ) where
  move : Spot → Next → Stand
  move spot (number d) = then_taken (λ _. record { spot = spot; next = number d }) (any_form s spot) λ v later. record { spot = later; next = after d v }
  move spot (nothing t lists) = record { spot = spot; next = nothing t lists }

  walk : ℕ → Stand
  walk zero = record { spot = record { at = 0; padded = 0 }; next = number edition }
  walk (suc k) = move (walk k).spot (walk k).next

  -- what is met is on the walk
  walked : {at padded : ℕ} {next : Next} → Meets s at padded next → (k : ℕ) × (walk k ≡ record { spot = record { at = at; padded = padded }; next = next })
  unfolding walk move
  walked begin = (0, refl)
  walked (on {place = at} {padded = padded} m w l h) = let e = walked m in
      (suc e.0, ap (λ (x : Stand). move x.spot x.next) e.1 ∙ then-read _ _ _ _ (number_read s at padded w))

  -- and it stays where nothing is expected
  stays : (k j : ℕ) {spot : Spot} {t : TaskTable} {lists : List (List ℕ)} → walk k ≡ record { spot = spot; next = nothing t lists } → walk (k + j) ≡ record { spot = spot; next = nothing t lists }
  unfolding walk move
  stays k zero e = ap walk (add-zero k) ∙ e
  stays k (suc j) e = ap walk (add-suc k j) ∙ ap (λ (x : Stand). move x.spot x.next) (stays k j e)

  pub one_way : {t u : TaskTable} {p q : ℕ} {ls ms : List (List ℕ)} → Gives s t p ls → Gives s u q ms → (t ≡ u) × (p ≡ q) × (ls ≡ ms)
  one_way g h =
      let a = walked g in
      let b = walked h in
      let same = sym (stays a.0 b.0 a.1) ∙ ap walk (add_comm a.0 b.0) ∙ stays b.0 a.0 b.1 in
      let end = ap (λ (x : Stand). x.next) same in
      (cc, ap (λ (x : Stand). x.spot.padded) same, cc)
