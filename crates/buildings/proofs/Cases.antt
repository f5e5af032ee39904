-- What a file comes to, case by case: 26, 27, else its walk.
use mathlib.Core.Path.{◌≡◌, refl}
use mathlib.Core.List.{List}
use Prim.Native.Nat.{ℕ, ◌≤◌, ◌<◌}
use lib.Dec.{ltb}
use lib.ListN.{length}
use borrow.Author.Tests.{ltb-true, ltb-false, le-ltb}
use Rattle.std.specs.Prelude.{Result, Ok, Err, ⊤}
use Rattle.plain.proofs.Picks.{pick-case}
use Rattle.refusals.specs.Numbers.{high_cost, long_file}
use Rattle.refusals.specs.declared.Refusal.{Refusal}
use Rattle.refusals.specs.Refusal.{refusal}
use Rattle.tables.specs.Limits.{cost_max}
use Rattle.plans.proofs.Tests.{not-both}
use Rattle.files.specs.File.{walk}
use Rattle.buildings.specs.Building.{file_max, before_walking, uncounted, counted, building_call}

-- the rules that are tried first
pub data Before (size cost : ℕ) : Result ⊤ Refusal → Type 0 where
  dear : cost_max < cost → Before size cost (Err (refusal high_cost 0))
  long : cost ≤ cost_max → file_max < size → Before size cost (Err (refusal long_file 0))
  walks : cost ≤ cost_max → size ≤ file_max → Before size cost (Ok tt)

pub before : (size cost : ℕ) → Before size cost (before_walking size cost)
unfolding before_walking
before size cost =
    pick-case (Before size cost) (ltb cost_max cost)
    (λ h. dear (ltb-true cost_max cost h))
    (λ h. let c = ltb-false cost_max cost h in
    pick-case (Before size cost) (ltb file_max size)
    (λ w. long c (ltb-true file_max size w))
    (λ w. walks c (ltb-false file_max size w)))

pub none_before : {size cost : ℕ} → cost ≤ cost_max → size ≤ file_max → before_walking size cost ≡ Ok tt
unfolding before_walking
none_before c h = simp (le-ltb _ _ c, le-ltb _ _ h)

-- where these refuse nothing, the cost is in range and the file is short enough
pub ready : (size cost : ℕ) → before_walking size cost ≡ Ok tt → (cost ≤ cost_max) × (size ≤ file_max)
ready size cost = by (before size cost)
  where
    by : {o : Result ⊤ Refusal} → Before size cost o → o ≡ Ok tt → (cost ≤ cost_max) × (size ≤ file_max)
    by (dear h) e = absurd (not-both refl e)
    by (long c h) e = absurd (not-both refl e)
    by (walks c h) e = (c, h)

-- the call, by their outcome
module _ (file : List ℕ) (cost : ℕ) where
  pub call-refused : {r : Refusal} → before_walking (length file) cost ≡ Err r → building_call file cost ≡ uncounted r
  unfolding building_call
  call-refused e = rw e

  pub call-walked : before_walking (length file) cost ≡ Ok tt → building_call file cost ≡ counted (walk file) cost
  unfolding building_call
  call-walked e = rw e
