-- There and back: what the reader accepts is mended to itself, and what was mended is a record that the reader accepts; so mending it again changes nothing.
use Prim.Native.Nat.{ℕ, ◌≤◌}
use mathlib.Core.Path.{◌≡◌, sym, ap, ◌∙◌}
use mathlib.Core.Bool.{false}
use mathlib.Core.List.{List, ◌++◌}
use lib.ListN.{length, drop}
use Rattle.std.specs.Prelude.{Ok}
use Rattle.refusals.specs.Answer.{accepted}
use Rattle.tables.specs.declared.TaskTable.{TaskTable}
use Rattle.tables.specs.Runs.{all_zero}
use Rattle.tables.proofs.Runs.{some_runs}
use Rattle.records.specs.Nodes.{table_read}
use Rattle.records.specs.Reading.{reading_of}
use Rattle.records.proofs.Expected.{read-spelt}
use Rattle.writers.specs.Record.{record_of, Spells}
use Rattle.writers.specs.Writing.{writing}
use Rattle.writers.proofs.Back.{range-filling, record-read}
use Rattle.writers.proofs.Trip.{table-put}
use Rattle.menders.specs.declared.Draft.{Draft}
use Rattle.menders.specs.Draft.{no_counts, draft_of}
use Rattle.menders.specs.Mending.{counted, mend_call}
use Rattle.menders.proofs.Drawn.{drawn-filling}
use Rattle.menders.proofs.Strict.{strict-drawn}
use Rattle.menders.proofs.Calls.{call-written}

-- what the reader accepts
pub strict-mended : (s bytes : List ℕ) (t : TaskTable) → reading_of s ≡ table_read t → Spells s t → length s ≤ length bytes →
    mend_call s bytes ≡ record { after = record { answer = accepted (length s); lent = s ++ drop (length s) bytes }; counts = no_counts }
strict-mended s bytes t e (is, r, full) h =
    let d = strict-drawn s t (read-spelt s t e) in
    call-written s bytes (ap (λ (x : Draft). x.outcome) d)
    ∙ ap (λ (x : Draft). counted x.counts (writing x.table bytes)) d
    ∙ ap (counted no_counts) (table-put bytes t (range-filling t r full) r.some_runs (rw (← is) h))
    ∙ ap (λ (y : List ℕ). record { after = record { answer = accepted (length y); lent = y ++ drop (length y) bytes }; counts = no_counts }) (sym is)

-- what was mended
pub mended-read : (given : List ℕ) → (let t = (draft_of given).table in
    (draft_of given).outcome ≡ Ok tt → all_zero t.execution t.count ≡ false → reading_of (record_of t) ≡ table_read t)
mended-read given e z = let t = (draft_of given).table in record-read t (drawn-filling given e) (some_runs t.execution t.count z)
