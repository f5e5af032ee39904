-- What noting keeps. An accepted task's row stands, and a standing row placed on a sound board leaves it sound; a refusal writes no row and no
-- word. What is done with a task that has a plan is left open where it can be, so that admitting has the same.
use mathlib.Core.Path.{◌≡◌, refl, sym, ap, ◌∙◌}
use mathlib.Core.List.{List}
use Prim.Native.Nat.{ℕ, ◌≤◌}
use native.Mathlib.Omega.{arith}
use Rattle.refusals.specs.Numbers.{long_path, id_stands, board_full, few_words, unsound_board, high_cost}
use Rattle.std.specs.Prelude.{Result, Ok, Err}
use Rattle.refusals.specs.declared.Refusal.{Refusal}
use Rattle.refusals.specs.Refusal.{refusal}
use Rattle.tables.specs.declared.TaskTable.{TaskTable}
use Rattle.refusals.proofs.Readers.{readers-low}
use Rattle.records.proofs.Expected.{refused-told}
use Rattle.plans.specs.Accepted.{Accepted}
use Rattle.plans.specs.Calls.{loop_in, task_of}
use Rattle.plans.proofs.Cases.{Tasking}
use Rattle.plans.proofs.Cases.Tasking.{unread, round, long, goes}
use Rattle.plans.proofs.Table.{plans-accepted}
use Rattle.boards.specs.declared.Row.{Row}
use Rattle.boards.specs.declared.Change.{Change}
use Rattle.plans.specs.Words.{written}
use Rattle.boards.specs.Sound.{Sound}
use Rattle.boards.specs.Change.{on_change, changed, answer_to, placed}
use Rattle.boards.proofs.Cases.{Placing, placing}
use Rattle.boards.proofs.Cases.Placing.{stands, fills, full}
use Rattle.boards.proofs.Keeping.{placed-sound}
use Rattle.admissions.specs.Admission.{Admission, row_of, not_admitted, entered, noting}
use Rattle.admissions.proofs.Row.{row-standing}
use Rattle.admissions.proofs.Cases.{Noting, noted}
use Rattle.admissions.proofs.Cases.Noting.{dear, few, unsound, tries}

module _ (rows : List Row) (words : List ℕ) (t : TaskTable) where
  -- what an entry comes to by the board's change
  abbrev entry-by : Result Change Refusal → Admission
  entry-by told = on_change (not_admitted words) (λ c. record { change = Ok c; words = written t words }) told

  -- an entry that is refused changes nothing
  pub entered-kept : ((answer_to (entered rows words t).change).refusal ≡ 0 → ⊥) → (changed rows (entered rows words t).change ≡ rows) × ((entered rows words t).words ≡ words)
  unfolding entered
  entered-kept = by (placed rows (row_of t))
    where
      by : (told : Result Change Refusal) → ((answer_to (entry-by told).change).refusal ≡ 0 → ⊥) → (changed rows (entry-by told).change ≡ rows) × ((entry-by told).words ≡ words)
      by (Ok c) n = absurd (n refl)
      by (Err r) n = (refl, refl)

  -- its change is the board's
  pub entered-change : (entered rows words t).change ≡ placed rows (row_of t)
  unfolding entered
  entered-change = by (placed rows (row_of t))
    where
      by : (told : Result Change Refusal) → (entry-by told).change ≡ told
      by (Ok c) = refl
      by (Err r) = refl

  -- and a refusal of it has a number
  pub entered-number : {r : Refusal} → (entered rows words t).change ≡ Err r → 1 ≤ r.number
  entered-number {r} e = by (placing rows (row_of t)) (sym entered-change ∙ e)
    where
      by : {c : Result Change Refusal} → Placing rows (row_of t) c → c ≡ Err r → 1 ≤ r.number
      by (stands h) f = let n = ap (λ (x : Refusal). x.number) (let q : refusal id_stands 0 ≡ r = cc in q) in omega arith
      by (fills h l) f = absurd (let z : ◌≡◌ {A = ℕ} 0 1 = cc in omega arith)
      by (full h l) f = let n = ap (λ (x : Refusal). x.number) (let q : refusal board_full 0 ≡ r = cc in q) in omega arith

-- an accepted table's entry keeps a sound board sound
pub entered-sound : {rows : List Row} → Sound rows → (words : List ℕ) {t : TaskTable} → Accepted t → Sound (changed rows (entered rows words t).change)
entered-sound {rows} s words {t} ok = rw (entered-change rows words t) (placed-sound rows (row_of t) s (row-standing (plans-accepted ok)))

-- the cases of either call in two: out with a refusal, whose number is not 0, or a task that has a plan enters a sound board
module _ (bytes words : List ℕ) (rows : List Row) (cost : ℕ) (enter : TaskTable → Admission) where
  pub data Ending : Admission → Type 0 where
    out : (r : Refusal) → 1 ≤ r.number → Ending (not_admitted words r)
    entry : Sound rows → Accepted (task_of bytes cost) → Ending (enter (task_of bytes cost))

  pub task-ending : Sound rows → {a : Admission} → Tasking (not_admitted words) enter bytes cost a → Ending a
  task-ending s (unread r e) = out r (readers-low r.number (refused-told bytes r e).own)
  task-ending s (round e l) = out (loop_in (task_of bytes cost)) (omega arith)
  task-ending s (long e l h) = out (refusal long_path 0) (omega arith)
  task-ending s (goes e ok) = entry s ok

  -- a refusal leaves every row and every word, where the entry does
  pub ending-kept : {a : Admission} → Ending a → (((answer_to (enter (task_of bytes cost)).change).refusal ≡ 0 → ⊥) → (changed rows (enter (task_of bytes cost)).change ≡ rows) × ((enter (task_of bytes cost)).words ≡ words))
      → ((answer_to a.change).refusal ≡ 0 → ⊥) → (changed rows a.change ≡ rows) × (a.words ≡ words)
  ending-kept (out r l) stays n = (refl, refl)
  ending-kept (entry s ok) stays n = stays n

  -- only a sound board takes a task, and only a task with a plan: it comes to the task's entry
  pub ending-entered : {a : Admission} → Ending a → (answer_to a.change).refusal ≡ 0 → Sound rows × Accepted (task_of bytes cost) × (a ≡ enter (task_of bytes cost))
  ending-entered (out r l) z = absurd (omega arith)
  ending-entered (entry s ok) z = (s, ok, refl)

module _ (bytes words : List ℕ) (rows : List Row) (cost : ℕ) where
  ending : {a : Admission} → Noting bytes words rows cost a → Ending bytes words rows cost (entered rows words) a
  ending (dear c) = out (refusal high_cost 0) (omega arith)
  ending (few c w) = out (refusal few_words 0) (omega arith)
  ending (unsound c w u) = out (refusal unsound_board 0) (omega arith)
  ending (tries c w s t) = task-ending bytes words rows cost (entered rows words) s t

  pub refused-kept : ((answer_to (noting bytes words rows cost).change).refusal ≡ 0 → ⊥) → (changed rows (noting bytes words rows cost).change ≡ rows) × ((noting bytes words rows cost).words ≡ words)
  refused-kept = ending-kept bytes words rows cost (entered rows words) (ending (noted bytes words rows cost)) (entered-kept rows words (task_of bytes cost))

  pub accepted-entered : (answer_to (noting bytes words rows cost).change).refusal ≡ 0
      → Sound rows × Accepted (task_of bytes cost) × (noting bytes words rows cost ≡ entered rows words (task_of bytes cost))
  accepted-entered = ending-entered bytes words rows cost (entered rows words) (ending (noted bytes words rows cost))
