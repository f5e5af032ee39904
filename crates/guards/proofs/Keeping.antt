-- What admitting keeps: the guard leaves what noting leaves, or it is a refusal, which writes no row and no word.
use mathlib.Core.Path.{◌≡◌, refl, sym, ap, ◌∙◌}
use mathlib.Core.Bool.{true}
use mathlib.Core.List.{List}
use Prim.Native.Nat.{ℕ}
use native.Mathlib.Omega.{arith}
use borrow.Author.Tests.{eqb-false}
use Rattle.refusals.specs.Numbers.{bad_cores, few_words, unsound_board, verdict_no, high_cost}
use Rattle.refusals.specs.Refusal.{refusal}
use Rattle.tables.specs.declared.TaskTable.{TaskTable}
use Rattle.plans.specs.Accepted.{Accepted}
use Rattle.plans.specs.Calls.{task_of}
use Rattle.std.specs.Prelude.{Result}
use Rattle.refusals.specs.declared.Refusal.{Refusal}
use Rattle.boards.specs.declared.Row.{Row}
use Rattle.boards.specs.declared.Change.{Change}
use Rattle.boards.specs.Sound.{Sound}
use Rattle.boards.specs.Verdict.{verdict}
use Rattle.boards.specs.Change.{changed, answer_to}
use Rattle.admissions.specs.Admission.{Admission, entered}
use Rattle.guards.specs.Guarded.{guarded, guarded_entry, admission}
use Rattle.admissions.proofs.Keeping.{entered-kept, entered-number, Ending, task-ending, ending-kept, ending-entered}
use Rattle.admissions.proofs.Keeping.Ending.{out}
use Rattle.guards.proofs.Cases.{Guarding, guarding, Admitting, admitted}
use Rattle.guards.proofs.Cases.Guarding.{refused as refused-entry, kept, turned}
use Rattle.guards.proofs.Cases.Admitting.{dear, few, unsound, outside, tries}

-- the guard adds one refusal more to what it is handed
module _ (rows : List Row) (words : List ℕ) (cores : ℕ) (t : TaskTable) where
  guarded-kept : ((answer_to (guarded rows words cores (entered rows words t)).change).refusal ≡ 0 → ⊥)
      → (changed rows (guarded rows words cores (entered rows words t)).change ≡ rows) × ((guarded rows words cores (entered rows words t)).words ≡ words)
  guarded-kept = go (guarding rows words cores (entered rows words t))
    where
      go : {a : Admission} → Guarding rows words cores (entered rows words t) a → ((answer_to a.change).refusal ≡ 0 → ⊥) → (changed rows a.change ≡ rows) × (a.words ≡ words)
      go (refused-entry e) m = entered-kept rows words t m
      go (kept e y) m = absurd (m (ap (λ (c : Result Change Refusal). (answer_to c).refusal) e))
      go (turned e y) m = (refl, refl)

  guarded-accepted : (answer_to (guarded rows words cores (entered rows words t)).change).refusal ≡ 0
      → (guarded rows words cores (entered rows words t) ≡ entered rows words t) × (verdict (changed rows (entered rows words t).change) cores ≡ true)
  guarded-accepted = go (guarding rows words cores (entered rows words t))
    where
      go : {a : Admission} → Guarding rows words cores (entered rows words t) a → (answer_to a.change).refusal ≡ 0 → (a ≡ entered rows words t) × (verdict (changed rows (entered rows words t).change) cores ≡ true)
      go (refused-entry e) z = absurd (let l = entered-number rows words t e in let q = ap (λ (c : Result Change Refusal). (answer_to c).refusal) e in omega arith)
      go (kept z y) e = (refl, y)
      go (turned z y) e = absurd (eqb-false verdict_no 0 refl e)

module _ (bytes words : List ℕ) (rows : List Row) (cores cost : ℕ) where
  abbrev enter : TaskTable → Admission
  enter = guarded_entry rows words cores

  guarded-ending : {a : Admission} → Admitting bytes words rows cores cost a → Ending bytes words rows cost enter a
  guarded-ending (dear c) = out (refusal high_cost 0) (omega arith)
  guarded-ending (few c w) = out (refusal few_words 0) (omega arith)
  guarded-ending (unsound c w u) = out (refusal unsound_board 0) (omega arith)
  guarded-ending (outside c w s a) = out (refusal bad_cores 0) (omega arith)
  guarded-ending (tries c w s l h t) = task-ending bytes words rows cost enter s t

  pub admission-kept : ((answer_to (admission bytes words rows cores cost).change).refusal ≡ 0 → ⊥) → (changed rows (admission bytes words rows cores cost).change ≡ rows) × ((admission bytes words rows cores cost).words ≡ words)
  admission-kept = ending-kept bytes words rows cost enter (guarded-ending (admitted bytes words rows cores cost)) (guarded-kept rows words cores (task_of bytes cost))

  -- what it accepts, noting does, and the verdict with it is yes
  pub admission-entered : (answer_to (admission bytes words rows cores cost).change).refusal ≡ 0
      → Sound rows × Accepted (task_of bytes cost) × (admission bytes words rows cores cost ≡ entered rows words (task_of bytes cost)) × (verdict (changed rows (entered rows words (task_of bytes cost)).change) cores ≡ true)
  admission-entered z =
      let (s, ok, e) = ending-entered bytes words rows cost enter (guarded-ending (admitted bytes words rows cores cost)) z in
      let (same, fits) = guarded-accepted rows words cores (task_of bytes cost) (sym (ap (λ (a : Admission). (answer_to a.change).refusal) e) ∙ z) in
      (s, ok, e ∙ same, fits)
