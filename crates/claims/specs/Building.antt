-- All that is promised of walking a building's file (`planner_building`).
use Rattle.std.specs.Prelude.{◌≡◌, ◌⊎◌, ◌↔◌, false, List, [], ◌∷◌, ◌++◌, ℕ, ◌+◌, ◌≤◌, ◌<◌, eqb, length, drop, Ok}
use Rattle.plain.specs.Pick.{one}
use Rattle.plain.specs.At.{at}
use Rattle.plain.specs.Sums.{sum_to}
use Rattle.refusals.specs.Readers.{is_readers}
use Rattle.refusals.specs.After.{After}
use Rattle.tables.specs.declared.TaskTable.{TaskTable}
use Rattle.numbers.specs.Number.{record_more}
use Rattle.numbers.specs.Form.{Whole}
use Rattle.numbers.specs.Shortest.{Bytes}
use Rattle.plans.specs.Accepted as plan
use Rattle.plans.specs.Calls.{task_of, plan_call}
use Rattle.files.specs.File.{walk}
use Rattle.files.specs.Laid.{file_of, Laid, Refuses}
use Rattle.buildings.specs.declared.Counts.{Counts}
use Rattle.buildings.specs.declared.Building.{Building}
use Rattle.buildings.specs.Task.{of_accepted, refused_by, dense_in}
use Rattle.buildings.specs.Counts.{counts_of, no_counts}
use Rattle.planner.specs.Allows.{BuildingAllows}
use Rattle.claims.specs.Rule.{Rule, rule, rule_by, IsAccepted, IsRefused}
use Rattle.claims.specs.Promise.{Promise}
use Rattle.claims.specs.Plan.{exact_of}

-- 26, "cost above 255, before all others"; "27, a longer slice, first"; then from the left 1, 2 and 18
abbrev pub building_rules : (file : List ℕ) (cost : ℕ) → List Rule
building_rules file cost =
    rule 26 (255 < cost)
    ∷ rule 27 (1048576 < length file)
    ∷ rule_by (Refuses file)
    ∷ []

-- the records that the walk gives back
abbrev pub records_of : (file : List ℕ) → List (List ℕ)
records_of file = (walk file).records

-- the number of records
abbrev pub building_value : (file : List ℕ) → ℕ → Type 0
building_value file v = v ≡ length (records_of file)

-- the answer, whatever the counts are; the file is lent to be read
abbrev pub Leaves : (file : List ℕ) (cost : ℕ) → After (List ℕ) → Type 0
Leaves file cost a = (counts : Counts) × BuildingAllows file cost (record { answer = a.answer; counts = counts }) × (a.lent ≡ file)

-- how a record counts, by the answer of planning it alone into words enough
pub record Alone (bytes words : List ℕ) (cost : ℕ) : Type 0 where
  -- "nodes and all after them count accepted records only": of these, what is counted of the record's task
  pub accepted : (f : TaskTable → ℕ) → IsAccepted (plan_call bytes words cost).answer → of_accepted f cost bytes ≡ f (task_of bytes cost)
  pub refused : (f : TaskTable → ℕ) → IsRefused (plan_call bytes words cost).answer → of_accepted f cost bytes ≡ 0
  -- "refused by number"
  pub number : (k : ℕ) → 1 ≤ k → refused_by k cost bytes ≡ one (eqb (plan_call bytes words cost).answer.refusal k)

-- the promises
pub record OfBuildings : Type 0 where
  pub call : (file : List ℕ) (cost : ℕ) → Promise (Leaves file cost) file (building_rules file cost) (building_value file) (λ _. file)
  -- the contract determines the counts, too
  pub one-building : (file : List ℕ) (cost : ℕ) (b c : Building) → BuildingAllows file cost b → BuildingAllows file cost c → b ≡ c
  -- "Each count equals a definition over the list of records", also where "A damaged length ends the walk"; on 26 and on 27 "all counts 0"
  pub counts : (file : List ℕ) (cost : ℕ) (b : Building) → BuildingAllows file cost b → cost ≤ 255 → length file ≤ 1048576 → b.counts ≡ counts_of (records_of file) cost
  pub uncounted : (file : List ℕ) (cost : ℕ) (b : Building) → BuildingAllows file cost b → (255 < cost) ⊎ (1048576 < length file) → b.counts ≡ no_counts
  -- the walk gives back records that lie one after the other from the file's front, each as the part that it occupies, and whatever lies so is among them
  pub laid : (file : List ℕ) → (place : ℕ) × Laid file (records_of file) place
  pub all : (file : List ℕ) (records : List (List ℕ)) (place : ℕ) → Laid file records place → (more : List (List ℕ)) × (records_of file ≡ records ++ more)
  -- "A damaged length ends the walk": where no whole record follows, these are all
  pub last : (file : List ℕ) (records : List (List ℕ)) (place : ℕ) → Laid file records place →
      ((size n : ℕ) → Whole record_more (drop place file) size n → length file < place + n + size) → records_of file ≡ records
  -- with only their lengths between: what was walked is these records, each with its length in shortest form before it
  pub apart : (file : List ℕ) → Bytes file → (rest : List ℕ) × (file ≡ file_of (records_of file) ++ rest)
  -- a file is walked to its end just where it is such records and nothing else
  pub whole : (file : List ℕ) → Bytes file → (walk file).outcome ≡ Ok tt → file ≡ file_of (records_of file)
  pub walks : (records : List (List ℕ)) → length (file_of records) ≤ 1048576 → walk (file_of records) ≡ record { records = records; outcome = Ok tt }
  -- "plan it alone"
  pub alone : (bytes words : List ℕ) (cost : ℕ) → 387 ≤ length words → cost ≤ 255 → Alone bytes words cost
  -- each record is accepted or refused by a number, each segment of an accepted one heavy or light
  pub records : (records : List (List ℕ)) (cost : ℕ) → cost ≤ 255 → (let c = counts_of records cost in c.records ≡ c.accepted + sum_to 29 (at c.refused))
  pub segments : (records : List (List ℕ)) (cost : ℕ) → cost ≤ 255 → (let c = counts_of records cost in c.heavy + c.light ≡ c.segments)
  -- a record is refused by the reader's own numbers, by 10 and by 11 alone
  pub numbers : (records : List (List ℕ)) (cost k : ℕ) → cost ≤ 255 → is_readers k ≡ false → (k ≡ 10 → ⊥) → (k ≡ 11 → ⊥) → at (counts_of records cost).refused k ≡ 0
  -- "any density above one" is the same rounded or not
  pub dense : (t : TaskTable) → plan.Accepted t → (dense_in t ≡ 1) ↔ ((v : ℕ) × (v < t.count) × ((exact_of t v).lower < (exact_of t v).upper))
