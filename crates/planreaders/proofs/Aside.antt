-- A plan that was read into words of its own stands at their front: as many of them as were told are the plan's.
use mathlib.Core.Path.{◌≡◌, ap, ◌∙◌}
use mathlib.Core.List.{List}
use Prim.Native.Nat.{ℕ, ◌≤◌}
use native.Mathlib.Omega.{arith}
use lib.ListN.{length, take}
use lib.Seq.{take_at}
use Rattle.std.specs.Prelude.{Ok}
use Rattle.plans.specs.Words.{words_max}
use Rattle.planreaders.specs.declared.PlanRecord.{PlanRecord}
use Rattle.planreaders.specs.Plan.{PlanRead, plan_of}
use Rattle.planreaders.specs.Reading.{filled_with}
use Rattle.planreaders.specs.Inner.Listed.{told}
use Rattle.planreaders.proofs.Filling.{filled-length}
use Rattle.planreaders.proofs.Plans.{read-told, Shape, plan-shape}

-- so many of these words are the plan that a record holds, with its id
pub record Aside (bytes words : List ℕ) (room id count : ℕ) : Type 0 where
  pub plan : List ℕ
  pub is : plan_of bytes ≡ PlanRead.read id plan
  pub front : take count words ≡ plan
  pub shape : Shape id plan
  pub few : count ≤ words_max
  pub size : length words ≡ room

-- what was told is what reading tells, and the plan was filled into words enough
pub read-aside : (bytes old : List ℕ) {words : List ℕ} {r : PlanRecord} → words_max ≤ length old → Ok r ≡ told (plan_of bytes) →
    ((id : ℕ) (found : List ℕ) → plan_of bytes ≡ PlanRead.read id found → words ≡ filled_with found old) → Aside bytes words (length old) r.id r.words
read-aside bytes old {r = r} room e fills =
    let p = read-told _ e in
    let s = plan-shape bytes p.1 in
    let w = fills r.id p.0 p.1 in
    let h : r.words ≤ words_max = omega (arith, p.2, s.size, s.segments-high, s.nodes-high) in
    record {
      plan = p.0;
      is = p.1;
      front = ap (take r.words) w ∙ take_at p.0 _ r.words p.2;
      shape = s;
      few = h;
      size = ap (length {A = ℕ}) w ∙ filled-length p.0 old (omega (arith, p.2));
    }
