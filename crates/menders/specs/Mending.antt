-- Mending as one definition: the given record is read, and its table is written as any other. "Nothing else is changed".
use Rattle.std.specs.Prelude.{List, ℕ, eqb, Result, Ok, Err}
use Rattle.plain.specs.Pick.{pick}
use Rattle.refusals.specs.declared.Refusal.{Refusal}
use Rattle.refusals.specs.Refusal.{on_outcome}
use Rattle.refusals.specs.Answer.{accepted, refused}
use Rattle.refusals.specs.After.{After}
use Rattle.writers.specs.Writing.{unwritten, writing}
use Rattle.menders.specs.declared.Counts.{Counts}
use Rattle.menders.specs.declared.Mending.{Mending}
use Rattle.menders.specs.Draft.{no_counts, draft_of}

-- what a call leaves: its answer, the lent bytes, and "three counts over the given record"
pub record Mended : Type 0 where
  pub after : After (List ℕ)
  pub counts : Counts

-- the length of a mended record beside its counts, or a refusal beside "three zeros", as C reads them
abbrev pub mending_of : Result (ℕ × Counts) Refusal → Mending
mending_of (Ok mended) = record { answer = accepted mended.0; counts = mended.1 }
mending_of (Err r) = record { answer = refused r; counts = no_counts }

-- a refusal of the reading goes out: nothing is written, and nothing counted
abbrev pub unmended : List ℕ → Refusal → Mended
unmended bytes r = record { after = unwritten bytes r; counts = no_counts }

-- beside what the writer leaves: the counts, unless it refused the table, by 21 or by "19 last, for a short buffer"
abbrev pub counted : Counts → After (List ℕ) → Mended
counted counts after = record { after = after; counts = pick (eqb after.answer.refusal 0) counts no_counts }

-- "Write a mended record into a second buffer"
unfoldable pub mend_call : (given bytes : List ℕ) → Mended
mend_call given bytes = (let draft = draft_of given in
    on_outcome (unmended bytes) (counted draft.counts (writing draft.table bytes)) draft.outcome)
