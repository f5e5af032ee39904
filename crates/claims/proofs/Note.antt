-- Noting answers by its rules: its cases are 26, 16, 17, those of the record's task, and those of placing its row; an accepted one writes the plan
-- and the row.
use mathlib.Core.Path.{◌≡◌, refl}
use mathlib.Core.Logic.{inl, inr}
use mathlib.Core.List.{List}
use Prim.Native.Nat.{ℕ, ◌≤◌, ◌<◌}
use native.Mathlib.Omega.{arith}
use lib.ListN.{set}
use borrow.Author.Tests.{eqb-false}
use Rattle.std.specs.Prelude.{Result, Ok}
use Rattle.refusals.specs.Numbers.{id_stands, board_full, few_words, unsound_board, high_cost}
use Rattle.refusals.specs.declared.Refusal.{Refusal}
use Rattle.refusals.specs.Refusal.{refusal}
use Rattle.tables.specs.declared.TaskTable.{TaskTable}
use Rattle.plans.specs.Words.{written}
use Rattle.plans.specs.Accepted.{Accepted}
use Rattle.plans.specs.Calls.{task_of}
use Rattle.boards.specs.declared.Row.{Row}
use Rattle.boards.specs.declared.Change.{Change}
use Rattle.boards.specs.Row.{rows_max}
use Rattle.boards.specs.Sound.{Sound}
use Rattle.boards.specs.Find.{place_of, free_at}
use Rattle.boards.specs.Change.{on_change, answer_to, changed}
use Rattle.boards.proofs.Cases.{Placing, placing}
use Rattle.boards.proofs.Cases.Placing.{stands as place-stands, fills as place-fills, full as place-full}
use Rattle.admissions.specs.Admission.{Admission, row_of, not_admitted, entered, noting}
use Rattle.admissions.proofs.Cases.{Noting, noted}
use Rattle.admissions.proofs.Cases.Noting.{dear, few, unsound, tries}
use Rattle.admissions.proofs.Keeping.{entered-sound, refused-kept, accepted-entered}
use Rattle.planner.specs.Calls.{note_call}
use Rattle.claims.specs.Rule.{Decides, IsAccepted, IsRefused}
use Rattle.claims.specs.Record.{NamesLoop}
use Rattle.claims.specs.Board.{IsFree, Lowest}
use Rattle.claims.specs.Note.{board_rules, note_rules, with_task, OfNoting}
use Rattle.claims.proofs.Rule.{single, gives, not-given}
use Rattle.claims.proofs.Promise.{promised}
use Rattle.claims.proofs.Record.{record-singles, decided, names-loop}
use Rattle.claims.proofs.Plan.{good-plan}
use Rattle.claims.proofs.Board.{one-lowest, some_id, no-id, some-free, no-free, lowest-free}

-- entering a task that has a plan
module _ (rows : List Row) (words : List ℕ) (t : TaskTable) where
  -- the task's row at the lowest free place, and its plan in the words
  abbrev pub filled : Admission
  filled = record { change = Ok (record { at = free_at rows; row = row_of t }); words = written t words }

  -- 12; 13; else the lowest free row is filled
  pub data Entering : Admission → Type 0 where
    stands : place_of t.id rows < rows_max → Entering (not_admitted words (refusal id_stands 0))
    full : rows_max ≤ place_of t.id rows → rows_max ≤ free_at rows → Entering (not_admitted words (refusal board_full 0))
    fills : rows_max ≤ place_of t.id rows → free_at rows < rows_max → Entering filled

  -- one of the three, as placing its row is
  pub entering : Entering (entered rows words t)
  unfolding entered
  entering = go (placing rows (row_of t))
    where
      go : {c : Result Change Refusal} → Placing rows (row_of t) c → Entering (on_change (not_admitted words) (λ d. record { change = Ok d; words = written t words }) c)
      go (place-stands h) = stands h
      go (place-fills h f) = fills h f
      go (place-full h f) = full h f

  -- none of them is 10
  pub entry_other : (answer_to (entered rows words t).change).refusal ≡ 10 → ⊥
  entry_other = go entering
    where
      go : {x : Admission} → Entering x → (answer_to x.change).refusal ≡ 10 → ⊥
      go (stands h) z = eqb-false id_stands 10 refl z
      go (full h f) z = eqb-false board_full 10 refl z
      go (fills h f) z = eqb-false 0 10 refl z

module _ (bytes words : List ℕ) (rows : List Row) (cost : ℕ) where
  -- its rules decide its answer
  decides : Decides (note_rules bytes words rows cost) (Lowest (IsFree rows)) (answer_to (noting bytes words rows cost).change)
  decides = go (noted bytes words rows cost)
    where
      entry : Sound rows → {x : Admission} → Entering rows words (task_of bytes cost) x → Decides (board_rules (task_of bytes cost) rows) (Lowest (IsFree rows)) (answer_to x.change)
      entry s (stands h) = inl (gives 12 (some_id s (task_of bytes cost).id h) refl)
      entry s (full h f) = inr (not-given (no-id s (task_of bytes cost).id h), inl (gives 13 (no-free s f) refl))
      entry s (fills h f) = inr (not-given (no-id s (task_of bytes cost).id h), inr (not-given (λ n. n (some-free s f)), (free_at rows, lowest-free s f, refl)))

      go : {x : Admission} → Noting bytes words rows cost x → Decides (note_rules bytes words rows cost) (Lowest (IsFree rows)) (answer_to x.change)
      go (dear c) = inl (gives 26 c refl)
      go (few c w) = inr (not-given (λ l. omega arith), inl (gives 16 w refl))
      go (unsound c w u) = inr (not-given (λ l. omega arith), inr (not-given (λ l. omega arith), inl (gives 17 u refl)))
      go (tries c w s t) =
          inr (
            not-given (λ l. omega arith),
            inr (
              not-given (λ l. omega arith),
              inr (
                not-given (λ u. u s),
                decided (λ (x : Admission). (answer_to x.change)) (λ r. refl) bytes cost (board_rules (task_of bytes cost) rows) (Lowest (IsFree rows)) (λ e ok. entry s (entering rows words (task_of bytes cost))) t,
              ),
            ),
          )

  -- 10 names the loop
  loop-named : (answer_to (noting bytes words rows cost).change).refusal ≡ 10 → NamesLoop (task_of bytes cost) (answer_to (noting bytes words rows cost).change)
  loop-named = go (noted bytes words rows cost)
    where
      go : {x : Admission} → Noting bytes words rows cost x → (answer_to x.change).refusal ≡ 10 → NamesLoop (task_of bytes cost) (answer_to x.change)
      go (dear c) z = absurd (eqb-false high_cost 10 refl z)
      go (few c w) z = absurd (eqb-false few_words 10 refl z)
      go (unsound c w u) z = absurd (eqb-false unsound_board 10 refl z)
      go (tries c w s t) z = names-loop (λ (x : Admission). (answer_to x.change)) (λ r. refl) bytes cost (entry_other rows words (task_of bytes cost)) t z

  -- a sound board, an accepted table whose id no row has, and the lowest free row filled, which leaves the board sound
  pub record Joins (x : Admission) : Type 0 where
    pub sound : Sound rows
    pub table : Accepted (task_of bytes cost)
    pub new : rows_max ≤ place_of (task_of bytes cost).id rows
    pub free : free_at rows < rows_max
    pub fine : Sound (set rows (free_at rows) (row_of (task_of bytes cost)))
    pub is : x ≡ filled rows words (task_of bytes cost)

  -- an entry that is accepted is that
  pub entry-joins : Sound rows → Accepted (task_of bytes cost) → IsAccepted (answer_to (entered rows words (task_of bytes cost)).change) → Joins (entered rows words (task_of bytes cost))
  entry-joins s ok = go (entering rows words (task_of bytes cost)) (entered-sound s words ok)
    where
      go : {x : Admission} → Entering rows words (task_of bytes cost) x → Sound (changed rows x.change) → IsAccepted (answer_to x.change) → Joins x
      go (stands h) fine z = absurd (eqb-false id_stands 0 refl z)
      go (full h f) fine z = absurd (eqb-false board_full 0 refl z)
      go (fills h f) fine z = record { sound = s; table = ok; new = h; free = f; fine = fine; is = refl }

  -- so is an accepted noting
  pub note-accepted : IsAccepted (answer_to (noting bytes words rows cost).change) → Joins (noting bytes words rows cost)
  note-accepted z =
      let w = accepted-entered bytes words rows cost z in
      rw w.2 (entry-joins w.0 w.1 (rw w.2 at z))

  -- it leaves the plan's words and the row
  pub joins-written : {x : Admission} → Joins x → record { words = x.words; rows = changed rows x.change } ≡ with_task (task_of bytes cost) words rows (answer_to x.change).value
  joins-written a = rw a.is

  -- a refused one leaves everything
  pub note-untouched : IsRefused (answer_to (noting bytes words rows cost).change) → (note_call bytes words rows cost).lent ≡ record { words = words; rows = rows }
  note-untouched n = let kept = refused-kept bytes words rows cost n in rw (kept.0, kept.1)

-- the promises
pub of-noting : OfNoting
of-noting = record {
  call = λ bytes words rows cost. promised (note_call bytes words rows cost)
      (note_rules bytes words rows cost) (Lowest (IsFree rows))
      (single _ _, (single _ _, (single _ _, ((record-singles bytes cost).0, ((record-singles bytes cost).1.0, (single _ _, (single _ _, (single _ _, tt))))))))
      (one-lowest (IsFree rows)) (decides bytes words rows cost)
      (note-untouched bytes words rows cost)
      (λ z. joins-written bytes words rows cost (note-accepted bytes words rows cost z));
  loop = λ bytes words rows cost a e. rw e (loop-named bytes words rows cost);
  plan = λ bytes words rows cost a e z. good-plan (note-accepted bytes words rows cost (rw e at z)).table;
}
