-- Numbers that are in range one after the other, written in shortest form, are read as the table that they tell: each is there whole, since
-- every range is below four groups.
use Prim.Native.Nat.{ℕ, suc, ◌^◌, ◌≤◌, ◌<◌}
use mathlib.Core.Path.{◌≡◌, refl, sym, ap, ◌∙◌}
use mathlib.Core.List.{List, [], ◌∷◌, ◌++◌, append_assoc, append-nil}
use native.Mathlib.Omega.{arith}
use lib.ListN.{length, drop, length-append}
use lib.Seq.{drop-append_seam}
use Rattle.tables.specs.declared.TaskTable.{TaskTable}
use Rattle.tables.specs.Runs.{SomeRuns}
use Rattle.numbers.specs.Number.{record_more}
use Rattle.numbers.specs.Shortest.{shortest, all_shortest}
use Rattle.numbers.proofs.Shortest.{shortest-whole}
use Rattle.records.specs.Nodes.{table_read}
use Rattle.records.specs.Reading.{reading_of}
use Rattle.records.specs.Expected.{Due, range, Next, after, Expects}
use Rattle.records.specs.Expected.Due.{edition, id, period, count, execution, parent_count, parent}
use Rattle.records.specs.Expected.Next.{number, nothing}
use Rattle.records.specs.Expected.Expects.{begin, on}
use Rattle.writers.specs.Record.{numbers_written}
use Rattle.records.proofs.Expected.{spelt-read}
use Rattle.records.proofs.Answers.{Held, held}

-- the numbers that follow where `Next` is expected: each in its range, and t is the table that they tell
pub data Tells : Next → List ℕ → TaskTable → Type 0 where
  end : {t : TaskTable} → Tells (nothing t) [] t
  one : {due : Due} {v : ℕ} {vs : List ℕ} {t : TaskTable} → (range due).low ≤ v → v ≤ (range due).high → Tells (after due v) vs t →
      Tells (number due) (v ∷ vs) t

-- every range is below four groups, once the node count was read
high-groups : (d : Due) → Held (number d) → (range d).high < 128 ^ suc record_more
unfolding Held
high-groups edition g = omega arith
high-groups (id x) g = omega arith
high-groups (period x d) g = omega arith
high-groups (count x d p) g = omega arith
high-groups (execution t i) g = omega arith
high-groups (parent_count t i e) g = omega (arith, g.0.size)
high-groups (parent t i e left low set) g = omega (arith, g.0.size)

-- after what is written before a place, the numbers that are told from there on are expected
told-spells : (s front : List ℕ) {next : Next} {vs : List ℕ} {t : TaskTable} → s ≡ front ++ numbers_written vs →
    Expects s (length front) next → Tells next vs t → Expects s (length s) (nothing t)
unfolding all_shortest
told-spells s front e x end = let q : front ≡ s = sym (e ∙ append-nil front) in rw q at x
told-spells s front e x (one {due = d} {v = v} {vs = vs} l h r) =
    let w = shortest record_more v in
    let there : drop (length front) s ≡ w ++ numbers_written vs = ap (drop (length front)) e ∙ drop-append_seam front (w ++ numbers_written vs) in
    let fine = shortest-whole record_more v (numbers_written vs) (omega (arith, high-groups d (held x))) in
    let later = on x (rw (← there) at fine) l h in
    told-spells s (front ++ w) (e ∙ sym (append_assoc front w (numbers_written vs))) (rw (← (length-append front w)) at later) r

-- what is written from numbers in range is read as the table that they tell, where some node runs
pub written_read : (vs : List ℕ) (t : TaskTable) → Tells (number edition) vs t → SomeRuns t → reading_of (numbers_written vs) ≡ table_read t
written_read vs t r runs = spelt-read (numbers_written vs) (told-spells (numbers_written vs) [] refl begin r, runs)
