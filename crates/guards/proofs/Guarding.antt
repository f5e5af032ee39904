-- What the guard asks of a task that has a plan. The row that it would fill is free, so S with the task is the sum of both, and M the greater of both; and
-- the guard keeps just what noting it would leave, or leaves everything.
use Rattle.std.proofs.Common.{◌≡◌, refl, sym, ap, ◌∙◌, Bool, true, false, List, ℕ, ◌+◌, ◌<◌, max, set, length, arith}
use Rattle.std.specs.Prelude.{Result, Ok, Err, ⊤}
use Rattle.std.specs.Result.{result_and}
use Rattle.plain.specs.Pick.{pick}
use Rattle.plain.proofs.Sums.{sum-changed, max-changed}
use Rattle.refusals.specs.Numbers.{verdict_no}
use Rattle.refusals.specs.declared.Refusal.{Refusal}
use Rattle.refusals.specs.declared.Answer.{Answer}
use Rattle.refusals.specs.InOrder.{in_order}
use Rattle.refusals.specs.Refusal.{refusal, on_outcome}
use Rattle.tables.specs.declared.TaskTable.{TaskTable}
use Rattle.plans.specs.Words.{written}
use Rattle.records.specs.Reading.{reading_of}
use Rattle.plans.specs.Calls.{before_reading, on_table, on_task, task_of}
use Rattle.plans.specs.Inner.Planned.{Planned}
use Rattle.boards.specs.declared.Row.{Row}
use Rattle.boards.specs.Row.{rows_max, row_at}
use Rattle.boards.specs.Sound.{Sound, is_sound}
use Rattle.boards.specs.Find.{free_at}
use Rattle.boards.specs.Verdict.{sum_of, largest_of, verdict}
use Rattle.boards.specs.Change.{before_asking}
use Rattle.boards.proofs.Keeping.{others-kept, row_written, place-free, placed-sound}
use Rattle.admissions.specs.Admission.{Admission, row_of, not_admitted}
use Rattle.guards.specs.Guarded.{guarded, guarded_entry, admission}
use Rattle.admissions.proofs.Place.{found, place-number, place-accepted, later_of, later-none}
use Rattle.admissions.proofs.Row.{row-standing}
use Rattle.admissions.proofs.Tests.{stays_out, goes_in}

-- S and M with a row in the lowest free place
module _ {rows : List Row} (s : Sound rows) (h : free_at rows < rows_max) (row : Row) where
  pub sum-beside : sum_of (set rows (free_at rows) row) ≡ sum_of rows + row.sum
  unfolding sum_of
  sum-beside =
      let more = sum-changed rows_max (λ k. (row_at (set rows (free_at rows) row) k).sum) (λ k. (row_at rows k).sum) (free_at rows) h (λ k n. ap (λ (r : Row). r.sum) (others-kept rows (free_at rows) row k n)) in
      let none = ap (λ (r : Row). r.sum) (place-free s h) in
      let here = ap (λ (r : Row). r.sum) (row_written s (free_at rows) h row) in
      omega arith

  pub largest-beside : largest_of (set rows (free_at rows) row) ≡ max (largest_of rows) row.largest
  unfolding largest_of
  largest-beside =
      max-changed rows_max (λ k. (row_at (set rows (free_at rows) row) k).largest) (λ k. (row_at rows k).largest) (free_at rows) h (λ k n. ap (λ (r : Row). r.largest) (others-kept rows (free_at rows) row k n)) (ap (λ (r : Row). r.largest) (place-free s h))
      ∙ ap (λ (r : Row). max (largest_of rows) r.largest) (row_written s (free_at rows) h row)

-- what the guard tells
abbrev pub told : Bool → Result ⊤ Refusal
told says = pick says (Ok tt) (Err (refusal verdict_no 0))

-- a place was told where planning goes on, if no refusal of it is numbered 0; the board's are 12 and 13
pub later-placed : (told : Result ℕ Refusal) {later : Answer} → ((r : Refusal) → told ≡ Err r → r.number ≡ 0 → ⊥) → later ≡ later_of told → later.refusal ≡ 0 → (a : ℕ) × (told ≡ Ok a)
later-placed (Ok a) n so z = (a, refl)
later-placed (Err r) n so z = absurd (later-none (n r refl) so z refl)

-- so of what the board tells
pub later-told : (rows : List Row) (row : Row) (told : Result ℕ Refusal) {later : Answer} → told ≡ found rows row → later ≡ later_of told → later.refusal ≡ 0 → (a : ℕ) × (told ≡ Ok a)
later-told rows row told found-so = later-placed told λ r e. place-number rows row (sym found-so ∙ e)

-- a task that has a plan, by what the two places tell
module _ (rows : List Row) (words : List ℕ) (cores : ℕ) (t : TaskTable) {place : Result ℕ Refusal} (found-so : place ≡ found rows (row_of t)) where
  -- no place: nothing is asked
  pub guard_out : (r : Refusal) → place ≡ Err r → guarded_entry rows words cores t ≡ not_admitted words r
  unfolding guarded
  guard_out r e = rw (stays_out rows words t (sym found-so ∙ e))

  module _ {a : ℕ} (z : place ≡ Ok a) where
    -- a place: it is the lowest free one
    pub free-told : a ≡ free_at rows
    free-told = (goes_in rows words t (sym found-so ∙ z)).1

    pub free-low : free_at rows < rows_max
    free-low = rw free-told at (goes_in rows words t (sym found-so ∙ z)).2

    -- with the task in it the board is asked
    abbrev filled : Admission
    filled = record { change = Ok (record { at = free_at rows; row = row_of t }); words = written t words }

    asked : guarded_entry rows words cores t ≡ pick (verdict (set rows (free_at rows) (row_of t)) cores) filled (not_admitted words (refusal verdict_no 0))
    unfolding guarded
    asked = rw ((goes_in rows words t (sym found-so ∙ z)).0, free-told)

    -- and that board is sound
    pub beside-sound : Sound rows → Planned t → Sound (set rows (free_at rows) (row_of t))
    beside-sound s ok = let e = (place-accepted rows (row_of t) (sym found-so ∙ z)).0 in rw (e, free-told) at (placed-sound rows (row_of t) s (row-standing ok))

    abbrev says : Bool
    says = verdict (set rows (free_at rows) (row_of t)) cores

    -- it is turned away
    pub turned-away : {v : Result ⊤ Refusal} → v ≡ told says → {r : Refusal} → result_and v place ≡ Err r → guarded_entry rows words cores t ≡ not_admitted words r
    turned-away v {r} e = asked ∙ by says (rw (v, z) at e)
      where
        by : (b : Bool) → result_and (told b) (Ok a) ≡ Err r → pick b filled (not_admitted words (refusal verdict_no 0)) ≡ not_admitted words r
        by true f = absurd (let y : ◌≡◌ {A = ℕ} 0 1 = cc in omega arith)
        by false f = ap (not_admitted words) (let q : refusal verdict_no 0 ≡ r = cc in q)

    -- or kept
    pub kept_in : {v : Result ⊤ Refusal} → v ≡ told says → {at : ℕ} → result_and v place ≡ Ok at → (guarded_entry rows words cores t ≡ filled) × (at ≡ free_at rows)
    kept_in v {at} e = let w = by says (rw (v, z) at e) in (asked ∙ w.0, w.1 ∙ free-told)
      where
        by : (b : Bool) → result_and (told b) (Ok a) ≡ Ok at → (pick b filled (not_admitted words (refusal verdict_no 0)) ≡ filled) × (at ≡ a)
        by true f = (refl, let q : at ≡ a = cc in q)
        by false f = absurd (let y : ◌≡◌ {A = ℕ} 0 1 = cc in omega arith)

-- admitting: the rules before the record's
module _ (bytes words : List ℕ) (rows : List Row) (cores cost : ℕ) where
  -- 26, 16
  pub refused-first : {r : Refusal} → before_reading (length words) cost ≡ Err r → admission bytes words rows cores cost ≡ not_admitted words r
  unfolding admission
  refused-first e = rw e

  module _ (first : before_reading (length words) cost ≡ Ok tt) where
    -- 17, 15
    pub refused-asking : {r : Refusal} → before_asking (is_sound rows) cores ≡ Err r → admission bytes words rows cores cost ≡ not_admitted words r
    unfolding admission
    refused-asking e = rw (first, e)

    -- neither
    pub asked-for : before_asking (is_sound rows) cores ≡ Ok tt → admission bytes words rows cores cost ≡ on_task (not_admitted words) (guarded_entry rows words cores) bytes cost
    unfolding admission
    asked-for e = rw (first, e)

-- the rules before the task, in one outcome
module _ {A : Type 0} (refuse : Refusal → A) (go : A) where
  in-turn : (a b c : Result ⊤ Refusal) → on_outcome refuse (on_outcome refuse (on_outcome refuse go c) b) a ≡ on_outcome refuse go (in_order a b c)
  in-turn (Ok x) (Ok y) c = refl
  in-turn (Ok x) (Err r) c = refl
  in-turn (Err r) b c = refl

pub admission-ordered : (bytes words : List ℕ) (rows : List Row) (cores cost : ℕ)
    → admission bytes words rows cores cost ≡ on_outcome (not_admitted words) (on_table (not_admitted words) (guarded_entry rows words cores) (task_of bytes cost))
    (in_order (before_reading (length words) cost) (before_asking (is_sound rows) cores) (reading_of bytes).outcome)
unfolding admission on_task
admission-ordered bytes words rows cores cost = in-turn (not_admitted words) _ (before_reading (length words) cost) (before_asking (is_sound rows) cores) (reading_of bytes).outcome
