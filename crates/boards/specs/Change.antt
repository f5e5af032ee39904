-- What a call does to a board: one row written at one place, or a refusal.
use Rattle.std.specs.Prelude.{Bool, List, ℕ, eqb, ltb, set, Result, Ok, Err, ⊤}
use Rattle.plain.specs.Pick.{pick, one}
use Rattle.refusals.specs.Numbers.{id_stands, board_full, not_standing, bad_cores, unsound_board}
use Rattle.refusals.specs.declared.Answer.{Answer}
use Rattle.refusals.specs.declared.Refusal.{Refusal}
use Rattle.refusals.specs.Refusal.{refusal, on_outcome}
use Rattle.refusals.specs.Answer.{accepted, refused}
use Rattle.boards.specs.declared.Row.{Row}
use Rattle.boards.specs.declared.Change.{Change}
use Rattle.boards.specs.Row.{free_row, rows_max}
use Rattle.boards.specs.Sound.{is_sound}
use Rattle.boards.specs.Find.{place_of, free_at}
use Rattle.boards.specs.Verdict.{verdict, cores_max}

-- a refusal goes out by `refuse`; a change is done with by `go`
abbrev pub on_change : {A : Type 0} → (Refusal → A) → (Change → A) → Result Change Refusal → A
on_change refuse go (Ok c) = go c
on_change refuse go (Err r) = refuse r

-- the rows after a call: on a refusal, "board rows stay untouched"
abbrev pub changed : List Row → Result Change Refusal → List Row
changed rows told = on_change (λ r. rows) (λ c. set rows c.at c.row) told

-- its answer: "the number (0..15) of the row it filled", or "of the row it freed"
abbrev pub answer_to : Result Change Refusal → Answer
answer_to told = on_change refused (λ c. accepted c.at) told

-- a task's row to the lowest free row: 12 where the id stands already, 13 where all rows are taken
unfoldable pub placed : List Row → Row → Result Change Refusal
placed rows row =
    pick (ltb (place_of row.id rows) rows_max) (Err (refusal id_stands 0))
    (pick (ltb (free_at rows) rows_max) (Ok (record { at = free_at rows; row = row }))
    (Err (refusal board_full 0)))

-- a withdrawal: 17, then 14 ("0 never stands"); else the row becomes free
unfoldable pub withdrawn : List Row → ℕ → Result Change Refusal
withdrawn rows id =
    pick (is_sound rows)
    (pick (eqb id 0) (Err (refusal not_standing 0))
    (pick (ltb (place_of id rows) rows_max) (Ok (record { at = place_of id rows; row = free_row }))
    (Err (refusal not_standing 0))))
    (Err (refusal unsound_board 0))

-- "Asking checks 17, 15"
unfoldable pub before_asking : (sound : Bool) (cores : ℕ) → Result ⊤ Refusal
before_asking sound cores =
    pick sound
    (pick (eqb cores 0) (Err (refusal bad_cores 0))
    (pick (ltb cores_max cores) (Err (refusal bad_cores 0)) (Ok tt)))
    (Err (refusal unsound_board 0))

-- asking for a verdict: its refusals, else yes or no
unfoldable pub asked_by : (List Row → ℕ → Bool) → List Row → ℕ → Answer
asked_by says rows cores = on_outcome refused (accepted (one (says rows cores))) (before_asking (is_sound rows) cores)

-- for the one of document 01
abbrev pub asked : List Row → ℕ → Answer
asked = asked_by verdict
