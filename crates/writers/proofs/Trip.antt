-- There and back: what is written reads back as its table, which is in range since its record was written; and a record that was read is its table written, whose
-- numbers are in range since they were read.
use Prim.Native.Nat.{ℕ, ◌^◌, ◌≤◌, ◌<◌}
use mathlib.Core.Path.{◌≡◌, refl, sym, ap, ◌∙◌}
use mathlib.Core.Logic.{⊎_elim}
use mathlib.Core.List.{List}
use lib.ListN.{length, take, get_or-eq_default}
use lib.Seq.{length-take-le, get_or-take}
use Rattle.std.proofs.lemmas.Grind.{same_number_lists}
use Rattle.plain.specs.At.{at}
use Rattle.plain.proofs.Lists.{lt-or-ge}
use Rattle.tables.specs.declared.TaskTable.{TaskTable}
use Rattle.tables.specs.Limits.{count_max}
use Rattle.tables.specs.Runs.{SomeRuns}
use Rattle.tables.proofs.Runs.{runs-some}
use Rattle.numbers.specs.Shortest.{Bytes}
use Rattle.records.specs.Nodes.{table_read}
use Rattle.records.specs.Reading.{reading_of}
use Rattle.records.proofs.Expected.{read-spelt}
use Rattle.records.proofs.Answers.{Filling, spelt-range}
use Rattle.writers.specs.Record.{record_of, Spells}
use Rattle.writers.specs.Writing.{filled, table_of, record_put, writing, write_call}
use Rattle.writers.proofs.Again.{read_again}
use Rattle.writers.proofs.Back.{range-filling, table-ranges, record-read}
use Rattle.writers.proofs.Parts.{at-filled}
use Rattle.writers.proofs.Tried.{came}
use Rattle.writers.proofs.Table.{filled-length, trial-ranges, trial-range}
use Rattle.writers.proofs.Calls.{Passes, all-zero-filled, rules-pass, call-writing}

-- a record that is read spells its table, and what spells a table is read as it
pub spells : (s : List ℕ) (t : TaskTable) → Bytes s → reading_of s ≡ table_read t → Spells s t
spells s t b e = let a = read_again s t b e in (a.0, spelt-range (read-spelt s t e), a.1)

pub spelt : (s : List ℕ) (t : TaskTable) → Spells s t → reading_of s ≡ table_read t
spelt s t (e, r, f) = ap reading_of e ∙ record-read t (range-filling t r f) r.some_runs

-- the record of a table that passes spells it
pub passed-spells : (X P b : List ℕ) (x d p : ℕ) → length X ≡ length P → ((v : ℕ) → at P v < 2 ^ count_max) → Passes (table_of X P x d p) b →
    Spells (record_of (table_of X P x d p)) (table_of X P x d p)
passed-spells X P b x d p same words pass =
    let t = came _ (trial-ranges X P x d p ∙ pass.in-range) in
    let r = trial-range X P x d p t.0 t.1 same words (all-zero-filled X ∙ pass.runs) in
    (refl, r.0, r.1)

-- a table whose nodes are filled in is that of its own lists
cut-filled : (l : List ℕ) (n : ℕ) → length l ≡ count_max → n ≤ count_max → ((v : ℕ) → n ≤ v → at l v ≡ 0) → filled (take n l) ≡ l
cut-filled l n e h past =
    let size : length (take n l) ≡ n = length-take-le n l (rw e h) in
    same_number_lists (filled (take n l)) l (filled-length (take n l) (rw size h) ∙ sym e) λ v _. at-filled (take n l) v ∙ ⊎_elim
    (λ (b : v < n). get_or-take n l v 0 b)
    (λ (b : n ≤ v). get_or-eq_default (take n l) 0 {n = v} (rw size b) ∙ sym (past v b))
    (lt-or-ge v n)

module _ (t : TaskTable) (f : Filling t.count t) where
  own-length : (l : List ℕ) → length l ≡ count_max → length (take t.count l) ≡ t.count
  own-length l e = length-take-le t.count l (rw e f.size.1)

  pub own-lists : table_of (take t.count t.execution) (take t.count t.parents) t.edition t.id t.period ≡ t
  own-lists = λ i. record {
    edition = t.edition;
    id = t.id;
    period = t.period;
    count = own-length t.execution f.executions.size i;
    execution = cut-filled t.execution t.count f.executions.size f.size.1 f.executions.rest i;
    parents = cut-filled t.parents t.count f.sets.size f.size.1 f.sets.rest i;
  }

  -- so a call with its lists is its writing
  pub own-call : (b : List ℕ) → write_call (take t.count t.execution) (take t.count t.parents) b t.edition t.id t.period ≡ writing t b
  own-call b =
      let same = own-length t.execution f.executions.size ∙ sym (own-length t.parents f.sets.size) in
      call-writing _ _ b t.edition t.id t.period same ∙ ap (λ (u : TaskTable). writing u b) own-lists

-- a table in range is written where there is room, and a record that was read again
pub table-put : (b : List ℕ) (t : TaskTable) → Filling t.count t → SomeRuns t → length (record_of t) ≤ length b → writing t b ≡ record_put b t
unfolding writing
table-put b t f runs h = rw (rules-pass t b (table-ranges t f) (runs-some t.execution t.count runs.0 runs.1 runs.2) h)

pub write_again : (s b : List ℕ) (t : TaskTable) → Spells s t → length s ≤ length b →
    write_call (take t.count t.execution) (take t.count t.parents) b t.edition t.id t.period ≡ record_put b t
write_again s b t (e, r, h) l = let f = range-filling t r h in own-call t f b ∙ table-put b t f r.some_runs (rw (← e) l)
