-- Each call where the lent board doesn't have 16 rows: soundness begins with that number, so the board isn't sound, the call is refused as its rule says, and nothing is touched.
use Rattle.std.proofs.Common.{◌≡◌, refl, sym, ap, Bool, false, List, ℕ, length}
use Rattle.std.specs.Prelude.{Result, Ok, Err, ⊤}
use borrow.Author.Tests.{ne_eqb}
use Rattle.refusals.specs.Numbers.{unsound_board}
use Rattle.refusals.specs.declared.Answer.{Answer}
use Rattle.refusals.specs.declared.Refusal.{Refusal}
use Rattle.refusals.specs.Refusal.{refusal, on_outcome}
use Rattle.refusals.specs.Answer.{refused}
use Rattle.boards.specs.declared.Row.{Row}
use Rattle.boards.specs.declared.Change.{Change}
use Rattle.boards.specs.Row.{rows_max}
use Rattle.boards.specs.Sound.{is_sound}
use Rattle.boards.specs.Verdict.{verdict}
use Rattle.overheads.specs.ToEnd.{verdict_to_end}
use Rattle.boards.specs.Change.{changed, answer_to, withdrawn, before_asking, asked_by}
use Rattle.plans.specs.Calls.{before_reading}
use Rattle.admissions.specs.Admission.{not_admitted, noting}
use Rattle.guards.specs.Guarded.{admission}
use Rattle.admissions.specs.Inner.NoBoard.{no_board}
use Rattle.refusals.specs.After.{After}
use Rattle.planner.specs.Calls.{admitted}
use Rattle.planner.specs.Allows.{NoteAllows, AdmitAllows, WithdrawAllows, AskAllows, AskToEndAllows}

-- the board doesn't have 16 rows
abbrev pub NoBoard : List Row → Type 0
NoBoard rows = length rows ≡ rows_max → ⊥

-- such a board isn't sound
unsound : (rows : List Row) → NoBoard rows → is_sound rows ≡ false
unfolding is_sound
unsound rows none = simp (ne_eqb (length rows) rows_max none)

-- what a call on it answers that checks nothing before
abbrev pub unsound_told : Refusal
unsound_told = refusal unsound_board 0

-- a refusal, inside or outside of what it is put into
through : {A : Type 0} (f : Refusal → A) (told : Refusal) (o : Result ⊤ Refusal) → on_outcome f (f told) o ≡ f (on_outcome (λ r. r) told o)
through f told (Ok x) = refl
through f told (Err r) = refl

-- what the rules decide then
withdrawn-none : (rows : List Row) (id : ℕ) → NoBoard rows → withdrawn rows id ≡ Err unsound_told
unfolding withdrawn
withdrawn-none rows id none = simp (unsound rows none)

asked-none : (says : List Row → ℕ → Bool) (rows : List Row) (cores : ℕ) → NoBoard rows → asked_by says rows cores ≡ refused unsound_told
unfolding asked_by before_asking
asked-none says rows cores none = simp (unsound rows none)

noting-none : (bytes words : List ℕ) (rows : List Row) (cost : ℕ) → NoBoard rows → noting bytes words rows cost ≡ not_admitted words (no_board (length words) cost)
unfolding noting
noting-none bytes words rows cost none = simp (unsound rows none) (through (not_admitted words) unsound_told (before_reading (length words) cost))

admission-none : (bytes words : List ℕ) (rows : List Row) (cores cost : ℕ) → NoBoard rows → admission bytes words rows cores cost ≡ not_admitted words (no_board (length words) cost)
unfolding admission before_asking
admission-none bytes words rows cores cost none = simp (unsound rows none) (through (not_admitted words) unsound_told (before_reading (length words) cost))

-- and what the calls leave: the rows as they were, and the words
abbrev after : {Lent : Type 0} → Answer → Lent → After Lent
after a lent = record { answer = a; lent = lent }

pub withdraw-none : (rows : List Row) (id : ℕ) → NoBoard rows → WithdrawAllows rows id (after (refused unsound_told) rows)
withdraw-none rows id none = sym (ap (λ (told : Result Change Refusal). after (answer_to told) (changed rows told)) (withdrawn-none rows id none))

pub ask-none : (rows : List Row) (cores : ℕ) → NoBoard rows → AskAllows rows cores (after (refused unsound_told) rows)
ask-none rows cores none = sym (ap (λ (a : Answer). after a rows) (asked-none verdict rows cores none))

pub ask-to-end-none : (rows : List Row) (cores : ℕ) → NoBoard rows → AskToEndAllows rows cores (after (refused unsound_told) rows)
ask-to-end-none rows cores none = sym (ap (λ (a : Answer). after a rows) (asked-none verdict_to_end rows cores none))

pub note-none : (bytes words : List ℕ) (rows : List Row) (cost : ℕ) → NoBoard rows → NoteAllows bytes words rows cost (after (refused (no_board (length words) cost)) (record { words = words; rows = rows }))
note-none bytes words rows cost none = sym (ap (admitted rows) (noting-none bytes words rows cost none))

pub admit-none : (bytes words : List ℕ) (rows : List Row) (cores cost : ℕ) → NoBoard rows → AdmitAllows bytes words rows cores cost (after (refused (no_board (length words) cost)) (record { words = words; rows = rows }))
admit-none bytes words rows cores cost none = sym (ap (admitted rows) (admission-none bytes words rows cores cost none))
