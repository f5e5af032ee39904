-- Admitting answers by its rules: its cases are noting's, with 15 between 17 and the record's, and where noting would fill a row, the verdict with that row
-- decides between the two.
use mathlib.Core.Path.{◌≡◌, refl}
use mathlib.Core.Logic.{inl, inr, ⊎_elim}
use mathlib.Core.List.{List, ◌++◌}
use Prim.Native.Nat.{ℕ, ◌≤◌, ◌<◌}
use native.Mathlib.Omega.{arith}
use lib.ListN.{set}
use borrow.Author.Tests.{eqb-false}
use Rattle.refusals.specs.Numbers.{bad_cores, few_words, unsound_board, verdict_no, high_cost}
use Rattle.tables.specs.declared.TaskTable.{TaskTable}
use Rattle.plans.specs.Calls.{task_of}
use Rattle.boards.specs.declared.Row.{Row}
use Rattle.boards.specs.Sound.{Sound}
use Rattle.boards.specs.Find.{free_at}
use Rattle.boards.specs.Change.{answer_to, changed}
use Rattle.admissions.specs.Admission.{Admission, row_of, entered}
use Rattle.admissions.proofs.Keeping.{entered-sound}
use Rattle.guards.specs.Guarded.{admission}
use Rattle.guards.proofs.Cases.{Guarding, guarding, Admitting, admitted}
use Rattle.guards.proofs.Cases.Guarding.{refused, kept, turned}
use Rattle.guards.proofs.Cases.Admitting.{dear, few, unsound, outside, tries}
use Rattle.guards.proofs.Keeping.{admission-kept, admission-entered}
use Rattle.planner.specs.Calls.{admit_call}
use Rattle.claims.specs.Rule.{Decides, IsAccepted, IsRefused}
use Rattle.claims.specs.Record.{NamesLoop}
use Rattle.claims.specs.Board.{IsFree, Lowest}
use Rattle.claims.specs.Ask.{SaysYes}
use Rattle.claims.specs.Note.{board_rules}
use Rattle.claims.specs.Admit.{guard_rules, admit_rules, OfAdmitting}
use Rattle.claims.proofs.Rule.{single, gives, not-given}
use Rattle.claims.proofs.Promise.{promised}
use Rattle.claims.proofs.Record.{record-singles, decided, names-loop}
use Rattle.claims.proofs.Plan.{good-plan}
use Rattle.claims.proofs.Board.{one-lowest, some_id, no-id, some-free, no-free, lowest-free}
use Rattle.claims.proofs.Ask.{fits_told, fits-yes}
use Rattle.claims.proofs.Note.{Entering, entering, entry_other, Joins, entry-joins, joins-written}
use Rattle.claims.proofs.Note.Entering.{stands, full, fills}

module _ (bytes words : List ℕ) (rows : List Row) (cores cost : ℕ) where
  abbrev task : TaskTable
  task = task_of bytes cost

  -- its rules decide its answer
  decides : Decides (admit_rules bytes words rows cores cost) (Lowest (IsFree rows)) (answer_to (admission bytes words rows cores cost).change)
  decides = go (admitted bytes words rows cores cost)
    where
      -- 12, 13 as noting gives them; 20, or the row that noting fills
      entry : Sound rows → {x y : Admission} → Entering rows words task x → Guarding rows words cores x y → Decides (board_rules task rows ++ guard_rules task rows cores) (Lowest (IsFree rows)) (answer_to y.change)
      entry s (stands h) (refused n) = inl (gives 12 (some_id s task.id h) refl)
      entry s (stands h) (kept z v) = absurd cc
      entry s (stands h) (turned z v) = absurd cc
      entry s (full h f) (refused n) = inr (not-given (no-id s task.id h), inl (gives 13 (no-free s f) refl))
      entry s (full h f) (kept z v) = absurd cc
      entry s (full h f) (turned z v) = absurd cc
      entry s (fills h f) (refused n) = absurd cc
      entry s (fills h f) (kept z v) =
          inr (
            not-given (no-id s task.id h),
            inr (
              not-given (λ n. n (some-free s f)),
              inr (
                not-given (λ w. w.2 (rw (one-lowest (IsFree rows) w.0 (free_at rows) w.1 (lowest-free s f)) ((fits_told (set rows (free_at rows) (row_of task)) cores).holds v))),
                (free_at rows, lowest-free s f, refl),
              ),
            ),
          )
      entry s (fills h f) (turned z v) =
          inr (
            not-given (no-id s task.id h),
            inr (
              not-given (λ n. n (some-free s f)),
              inl (gives 20 (free_at rows, lowest-free s f, (fits_told (set rows (free_at rows) (row_of task)) cores).fails v) refl),
            ),
          )

      go : {x : Admission} → Admitting bytes words rows cores cost x → Decides (admit_rules bytes words rows cores cost) (Lowest (IsFree rows)) (answer_to x.change)
      go (dear c) = inl (gives 26 c refl)
      go (few c w) = inr (not-given (λ l. omega arith), inl (gives 16 w refl))
      go (unsound c w u) = inr (not-given (λ l. omega arith), inr (not-given (λ l. omega arith), inl (gives 17 u refl)))
      go (outside c w s a) = inr (not-given (λ l. omega arith), inr (not-given (λ l. omega arith), inr (not-given (λ u. u s), inl (gives 15 a refl))))
      go (tries c w s l h t) =
          inr (
            not-given (λ l. omega arith),
            inr (
              not-given (λ l. omega arith),
              inr (
                not-given (λ u. u s),
                inr (
                  not-given (⊎_elim (λ (z : cores ≡ 0). omega arith) (λ (g : 64 < cores). omega arith)),
                  decided (λ (x : Admission). (answer_to x.change)) (λ r. refl) bytes cost (board_rules task rows ++ guard_rules task rows cores) (Lowest (IsFree rows))
                      (λ e ok. entry s (entering rows words task) (guarding rows words cores (entered rows words task))) t,
                ),
              ),
            ),
          )

  -- 10 names the loop
  loop-named : (answer_to (admission bytes words rows cores cost).change).refusal ≡ 10 → NamesLoop task (answer_to (admission bytes words rows cores cost).change)
  loop-named = go (admitted bytes words rows cores cost)
    where
      other : {x : Admission} → Guarding rows words cores (entered rows words task) x → (answer_to x.change).refusal ≡ 10 → ⊥
      other (refused n) z = entry_other rows words task z
      other (kept e v) z = entry_other rows words task z
      other (turned e v) z = eqb-false verdict_no 10 refl z

      go : {x : Admission} → Admitting bytes words rows cores cost x → (answer_to x.change).refusal ≡ 10 → NamesLoop task (answer_to x.change)
      go (dear c) z = absurd (eqb-false high_cost 10 refl z)
      go (few c w) z = absurd (eqb-false few_words 10 refl z)
      go (unsound c w u) z = absurd (eqb-false unsound_board 10 refl z)
      go (outside c w s a) z = absurd (eqb-false bad_cores 10 refl z)
      go (tries c w s l h t) z = names-loop (λ (x : Admission). (answer_to x.change)) (λ r. refl) bytes cost (other (guarding rows words cores (entered rows words task))) t z

  -- an accepted one joins
  pub admit-accepted : IsAccepted (answer_to (admission bytes words rows cores cost).change) → Joins bytes words rows cost (admission bytes words rows cores cost)
  admit-accepted z =
      let w = admission-entered bytes words rows cores cost z in
      rw w.2 (entry-joins bytes words rows cost w.0 w.1 (rw w.2 at z))

  -- a refused one leaves everything
  pub admit-untouched : IsRefused (answer_to (admission bytes words rows cores cost).change) → (admit_call bytes words rows cores cost).lent ≡ record { words = words; rows = rows }
  admit-untouched n = let stays = admission-kept bytes words rows cores cost n in rw (stays.0, stays.1)

  -- it has a count of cores in its range
  cores-in : IsAccepted (answer_to (admission bytes words rows cores cost).change) → (1 ≤ cores) × (cores ≤ 64)
  cores-in = go (admitted bytes words rows cores cost)
    where
      go : {x : Admission} → Admitting bytes words rows cores cost x → IsAccepted (answer_to x.change) → (1 ≤ cores) × (cores ≤ 64)
      go (dear c) z = absurd (eqb-false high_cost 0 refl z)
      go (few c w) z = absurd (eqb-false few_words 0 refl z)
      go (unsound c w u) z = absurd (eqb-false unsound_board 0 refl z)
      go (outside c w s a) z = absurd (eqb-false bad_cores 0 refl z)
      go (tries c w s l h t) z = (l, h)

  -- and the verdict with the task is yes
  pub admit-fits : IsAccepted (answer_to (admission bytes words rows cores cost).change) → SaysYes (admit_call bytes words rows cores cost).lent.rows cores
  admit-fits z =
      let (s, ok, e, told) = admission-entered bytes words rows cores cost z in
      let (low, high) = cores-in z in
      let after = changed rows (entered rows words task).change in
      rw e (fits-yes after cores (entered-sound s words ok) low high ((fits_told after cores).holds told))

-- the promises
pub of-admitting : OfAdmitting
of-admitting = record {
  call = λ bytes words rows cores cost. promised (admit_call bytes words rows cores cost)
      (admit_rules bytes words rows cores cost) (Lowest (IsFree rows))
      (single _ _, (single _ _, (single _ _, (single _ _, ((record-singles bytes cost).0, ((record-singles bytes cost).1.0, (single _ _, (single _ _, (single _ _, (single _ _, tt))))))))))
      (one-lowest (IsFree rows)) (decides bytes words rows cores cost)
      (admit-untouched bytes words rows cores cost)
      (λ z. joins-written bytes words rows cost (admit-accepted bytes words rows cores cost z));
  loop = λ bytes words rows cores cost a e. rw e (loop-named bytes words rows cores cost);
  plan = λ bytes words rows cores cost a e z. good-plan (admit-accepted bytes words rows cores cost (rw e at z)).table;
  fits = λ bytes words rows cores cost a e. rw e (admit-fits bytes words rows cores cost);
}
