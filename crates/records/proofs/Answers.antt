-- What a reading can be. Every number that goes into the table passed its range, and what no node has filled is still 0; so a table that is read
-- whole is in range where some node runs, and where none does its edition is 2. Every refusal stands beside the empty table.
use Prim.Native.Nat.{ℕ, zero, suc, ◌+◌, ◌^◌, ◌≤◌, ◌<◌}
use mathlib.Core.Path.{◌≡◌, refl, sym, ap, ◌∙◌}
use mathlib.Core.Logic.{⊎_elim}
use mathlib.Core.Bool.{Bool, true, false}
use mathlib.Core.List.{List}
use native.Mathlib.Nat.{not-suc-le-zero, lt_of_lt_of_le}
use native.Mathlib.Omega.{arith}
use lib.ListN.{length, set, replicate, length-set}
use lib.Dec.{ltb}
use lib.Pow.{pow_pos, pow_mono}
use lib.Seq.{get_or-set_same, get_or-set_other}
use borrow.Author.Count.{below_more}
use borrow.Author.Tests.{ltb-true, ltb-false}
use Rattle.plain.specs.Pick.{pick}
use Rattle.plain.specs.At.{at}
use Rattle.plain.proofs.Lists.{lt-or-ge, at-replicate}
use Rattle.refusals.specs.declared.Refusal.{Refusal}
use Rattle.tables.specs.declared.TaskTable.{TaskTable}
use Rattle.tables.specs.Limits.{count_max, execution_max}
use Rattle.tables.specs.Table.{empty_table}
use Rattle.tables.specs.Runs.{AllZero, SomeRuns}
use Rattle.tables.specs.Range.{InRange}
use Rattle.std.specs.Prelude.{Ok, Err}
use Rattle.numbers.proofs.Cases.{clash}
use Rattle.records.specs.declared.Reading.{Reading}
use Rattle.records.specs.Nodes.{with_table, with_node}
use Rattle.records.specs.Reading.{headed, reading_of}
use Rattle.records.specs.Expected.{Due, range, Next, node_from, after, Expects, Spelt}
use Rattle.records.specs.Expected.Due.{edition, id, period, count, execution, parent_count, parent}
use Rattle.records.specs.Expected.Next.{number, nothing}
use Rattle.records.specs.Expected.Expects.{begin, on}
use Rattle.records.proofs.Inside.{set_room}
use Rattle.records.proofs.Expected.{Comes, comes, rule-refused, spelt-read}
use Rattle.records.proofs.Expected.Comes.{refuses, spells}

-- an array whose first i entries are as P says, the others 0
pub record Part (P : ℕ → Type 0) (i : ℕ) (l : List ℕ) : Type 0 where
  pub size : length l ≡ count_max
  pub done : (v : ℕ) → v < i → P (at l v)
  pub rest : (v : ℕ) → i ≤ v → at l v ≡ 0

-- before the first node, and after one more
part_none : (P : ℕ → Type 0) → Part P 0 (replicate count_max 0)
part_none P = record { size = refl; done = λ v h. absurd (not-suc-le-zero h); rest = λ v h. at-replicate count_max v }

part-more : {P : ℕ → Type 0} {i : ℕ} {l : List ℕ} (x : ℕ) → i < count_max → P x → Part P i l → Part P (i + 1) (set l i x)
part-more {P} {i} {l} x h p a = record {
  size = length-set l i x ∙ a.size;
  done =
      below_more (λ v. P (at (set l i x) v)) i
      (λ v b. rw (get_or-set_other l i v x 0 (λ q. omega arith)) (a.done v b))
      (rw (get_or-set_same l i x 0 (rw a.size h)) p);
  rest = λ v b. get_or-set_other l i v x 0 (λ q. omega arith) ∙ a.rest v (omega arith);
}

-- what follows of P, and holds of 0, holds of every entry
part-all : {P : ℕ → Type 0} {i : ℕ} {l : List ℕ} (Q : ℕ → Type 0) → Q 0 → ((x : ℕ) → P x → Q x) → Part P i l →
    (v : ℕ) → Q (at l v)
part-all {P} {i} {l} Q z f a v =
    ⊎_elim (λ (h : v < i). f (at l v) (a.done v h)) (λ (h : i ≤ v). rw (a.rest v h) z) (lt-or-ge v i)

-- the number v in the range of what is due
abbrev pub In : Due → ℕ → Type 0
In d v = ((range d).low ≤ v) × (v ≤ (range d).high)

-- the numbers before the nodes
abbrev pub Head : (x d p : ℕ) → Type 0
Head x d p = In edition x × In (id x) d × In (period x d) p

-- a table whose first i nodes were read
pub record Filling (i : ℕ) (t : TaskTable) : Type 0 where
  pub head : Head t.edition t.id t.period
  pub size : (1 ≤ t.count) × (t.count ≤ count_max)
  pub executions : Part (In (execution t i)) i t.execution
  pub sets : Part (λ w. w < 2 ^ t.count) i t.parents

-- before the first, after one more, and after the last
pub filling-none : (x d p n : ℕ) → Head x d p → In (count x d p) n → Filling 0 (headed x d p n)
filling-none x d p n h b = record { head = h; size = b; executions = part_none _; sets = part_none _ }

pub filling-more : (i : ℕ) (t : TaskTable) (e w : ℕ) → i < t.count → In (execution t i) e → w < 2 ^ t.count → Filling i t → Filling (i + 1) (with_node t i e w)
filling-more i t e w h p q f = record {
  head = f.head;
  size = f.size;
  executions = part-more e (omega (arith, f.size)) p f.executions;
  sets = part-more w (omega (arith, f.size)) q f.sets;
}

pub filling-all : (t : TaskTable) → SomeRuns t → Filling t.count t → InRange t
filling-all t runs f = record {
  edition-low = f.head.0.0;
  edition-high = f.head.0.1;
  id-low = f.head.1.0;
  id-high = f.head.1.1;
  period-low = f.head.2.0;
  period-high = f.head.2.1;
  count_low = f.size.0;
  count-high = f.size.1;
  execution-low = λ v h. (f.executions.done v h).0;
  execution-high = part-all (λ e. e ≤ execution_max) (omega arith) (λ e p. p.1) f.executions;
  execution-past = f.executions.rest;
  some_runs = runs;
  parents-below = part-all (λ w. w < 2 ^ t.count) (pow_pos t.count) (λ w p. p) f.sets;
  parents-past = f.sets.rest;
}

-- what holds where something is expected: of the head's numbers, of the nodes before node i, and of what was read of node i
unfoldable pub Held : Next → Type 0
Held (number edition) = Unit
Held (number (id x)) = In edition x
Held (number (period x d)) = In edition x × In (id x) d
Held (number (count x d p)) = Head x d p
Held (number (execution t i)) = Filling i t × (i < t.count)
Held (number (parent_count t i e)) = Filling i t × (i < t.count) × In (execution t i) e
Held (number (parent t i e left low set)) = Filling i t × (i < t.count) × In (execution t i) e × (set < 2 ^ low) × (low ≤ t.count)
Held (nothing t) = Filling t.count t

-- from a node on, and after a node's last parent
node-held : (t : TaskTable) (i : ℕ) → i ≤ t.count → Filling i t → Held (node_from t i)
unfolding Held
node-held t i l f = by (ltb i t.count) refl
  where
    by : (b : Bool) → ltb i t.count ≡ b → Held (pick b (number (execution t i)) (nothing t))
    by true e = (f, ltb-true i t.count e)
    by false e = let q : i ≡ t.count = omega (arith, ltb-false i t.count e) in rw q at f

last-held : (t : TaskTable) (i e w : ℕ) → Filling i t → i < t.count → In (execution t i) e → w < 2 ^ t.count → Held (node_from (with_node t i e w) (i + 1))
last-held t i e w f h x p = node-held (with_node t i e w) (i + 1) (omega arith) (filling-more i t e w h x p f)

-- after a number in its range
after-held : (d : Due) (v : ℕ) → (range d).low ≤ v → v ≤ (range d).high → Held (number d) → Held (after d v)
unfolding Held
after-held edition v l h b = (l, h)
after-held (id x) v l h b = (b, (l, h))
after-held (period x d) v l h b = (b.0, b.1, (l, h))
after-held (count x d p) v l h b =
    node-held (headed x d p v) 0 (omega arith) (filling-none x d p v b (l, h))
after-held (execution t i) v l h b = (b.0, b.1, (l, h))
after-held (parent_count t i e) zero l h b = last-held t i e 0 b.0 b.1 b.2 (pow_pos t.count)
after-held (parent_count t i e) (suc k) l h b = (b.0, b.1, b.2, omega arith, omega arith)
after-held (parent t i e zero low set) v l h b =
    last-held t i e (set + 2 ^ v) b.0 b.1 b.2 (lt_of_lt_of_le (set_room set low v b.3 l) (pow_mono {i = v + 1} {j = t.count} (omega (arith, b.1))))
after-held (parent t i e (suc left) low set) v l h b = (b.0, b.1, b.2, set_room set low v b.3 l, omega (arith, b.1))

-- so at every place that is reached, and where a whole table is
pub held : {s : List ℕ} {place : ℕ} {next : Next} → Expects s place next → Held next
unfolding Held
held begin = tt
held (on {v = v} {due = d} e w l h) = after-held d v l h (held e)

pub whole-table : {s : List ℕ} {place : ℕ} {t : TaskTable} → Expects s place (nothing t) → Filling t.count t
unfolding Held
whole-table e = held e

-- the table that a record spells is in range
pub spelt-range : {s : List ℕ} {t : TaskTable} → Spelt s t → InRange t
spelt-range (e, runs) = filling-all _ runs (whole-table e)

-- and where all executions are 0, it is of edition 2: in edition 1 the first is above 0
pub all-zero-edition : {s : List ℕ} {place : ℕ} {t : TaskTable} → Expects s place (nothing t) → AllZero t → t.edition ≡ 2
all-zero-edition {t = t} e z = let f = whole-table e in ⊎_elim
    (λ (l : 1 < t.edition). omega (arith, f.head.0))
    (λ (l : t.edition ≤ 1).
    let one : t.edition ≡ 1 = omega (arith, f.head.0) in
    let low : 1 ≤ at t.execution 0 = rw one at (f.executions.done 0 f.size.0).0 in
    absurd (omega (arith, z 0 f.size.0)))
    (lt-or-ge 1 t.edition)

-- the same by the reading's outcome
pub accepted-table : (s : List ℕ) → (reading_of s).outcome ≡ Ok tt → InRange (reading_of s).table
accepted-table s e = by (comes s)
  where
    by : Comes s → InRange (reading_of s).table
    by (refuses f) = clash (let q = ap (λ (x : Reading). x.outcome) (sym (rule-refused s f)) ∙ e in cc)
    by (spells f) = rw (spelt-read s f) (spelt-range f)

pub refused-table : (s : List ℕ) (r : Refusal) → (reading_of s).outcome ≡ Err r → (reading_of s).table ≡ empty_table
refused-table s r e = by (comes s)
  where
    by : Comes s → (reading_of s).table ≡ empty_table
    by (refuses f) = rw (rule-refused s f)
    by (spells f) = clash (let q = ap (λ (x : Reading). x.outcome) (sym (spelt-read s f)) ∙ e in cc)

-- and of a table that the inner reader returned
pub table-range : (s : List ℕ) (t : TaskTable) → with_table (Ok t) ≡ reading_of s → InRange t
table-range s t e = let d : (reading_of s).table ≡ t = ap (λ (x : Reading). x.table) (sym e) in rw d at (accepted-table s (ap (λ (x : Reading). x.outcome) (sym e)))
