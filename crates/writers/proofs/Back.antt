-- What is written of a table whose nodes are filled in is read as that table: its numbers are in range one after the other, and put the same entries into a
-- table that begins empty.
use Prim.Native.Nat.{ℕ, zero, suc, ◌+◌, ◌^◌, ◌≤◌, ◌<◌, zero-le}
use mathlib.Core.Path.{◌≡◌, refl, sym, ap₂, ◌∙◌}
use mathlib.Core.Logic.{⊎_elim}
use mathlib.Core.List.{List, [], ◌++◌, append_assoc, append-nil}
use native.Mathlib.Nat.{add-zero, eq-or-lt_of_le, le_refl, lt_of_lt_of_le}
use native.Mathlib.Numerals.{add-one}
use native.Mathlib.Omega.{arith}
use lib.ListN.{length, set, replicate}
use lib.Pow.{pow_mono}
use borrow.Author.Tests.{lt-ltb, le-ltb}
use Rattle.std.specs.Prelude.{Ok}
use Rattle.std.proofs.lemmas.Grind.{same_number_lists}
use Rattle.plain.specs.At.{at}
use Rattle.plain.proofs.Lists.{lt-or-ge, Filled, fill-zeros, fill_more}
use Rattle.sets.specs.Members.{members}
use Rattle.sets.specs.Rule.{set_of}
use Rattle.sets.proofs.Bits.{bit_le, mem-lt, same_bits}
use Rattle.sets.proofs.Sizes.{size-full, length-members}
use Rattle.sets.proofs.Rule.{bit_past, bit-set}
use Rattle.tables.specs.declared.TaskTable.{TaskTable}
use Rattle.tables.specs.Limits.{count_max, execution_max, least_execution}
use Rattle.tables.specs.Range.{InRange}
use Rattle.tables.specs.Runs.{SomeRuns}
use Rattle.records.specs.Nodes.{table_read, with_node}
use Rattle.records.specs.Reading.{reading_of}
use Rattle.records.specs.Expected.{Next, node_from}
use Rattle.records.specs.Expected.Due.{edition, execution}
use Rattle.records.specs.Expected.Next.{number}
use Rattle.records.proofs.Answers.{Filling}
use Rattle.writers.specs.Record.{node_numbers, numbers_to, numbers_of, record_of, Full}
use Rattle.writers.specs.Ranges.{ranges_from, ranges}
use Rattle.writers.proofs.Written.{Tells, written_read}
use Rattle.writers.proofs.Written.Tells.{end, one}
use Rattle.writers.proofs.Tried.{ranges_in}
use Rattle.writers.proofs.Along.{digits, along-members}
use Rattle.writers.proofs.Again.{high_zero}

-- a word is the set of its digits, and has no more members than its width
digits-word : (w : ℕ) → w < 2 ^ count_max → set_of count_max (digits w) ≡ w
digits-word w h = same_bits _ w λ k. ⊎_elim
    (λ (l : k < count_max). bit-set (digits w) (λ k. bit_le k w) count_max k l)
    (λ (l : count_max ≤ k). bit_past (digits w) (λ k. bit_le k w) count_max k l ∙ sym (high_zero count_max k w h l))
    (lt-or-ge k count_max)

members-cut : (n d w : ℕ) → n ≤ d → w < 2 ^ n → members d w ≡ members n w
unfolding members
members-cut n zero w l h = let e : n ≡ 0 = omega arith in rw e
members-cut n (suc d) w l h = ⊎_elim
    (λ (e : n ≡ suc d). rw e)
    (λ (q : n < suc d). rw (high_zero n d w h (omega arith), append-nil (members d w)) (members-cut n d w (omega arith) h))
    (eq-or-lt_of_le l)

few-members : (n w : ℕ) → n ≤ count_max → w < 2 ^ n → length (members count_max w) ≤ n
few-members n w l h = rw (members-cut n count_max w l h, length-members n w) (size-full n w)

-- a node is told, and then what comes after it
tells-node : (T u : TaskTable) (i e w : ℕ) (ws : List ℕ) → T.count ≤ count_max → w < 2 ^ T.count → least_execution T.edition ≤ e → e ≤ execution_max →
    Tells (node_from (with_node T i e w) (i + 1)) ws u → Tells (number (execution T i)) (node_numbers e w ++ ws) u
tells-node T u i e w ws c h l m x =
    let p = along-members (λ next place vs. Tells next vs u) (λ due v place vs. one) T i e w count_max 0 0 ws (omega arith) (λ k _ m. mem-lt T.count k w h m)
    λ low _. rw (digits-word w (lt_of_lt_of_le h (pow_mono c))) x in
    one l m (one zero-le (few-members T.count w c h) (rw (add-zero (length (members count_max w))) at p))

-- numbers that are told are in range
tells-ranges : {next : Next} {vs : List ℕ} {t : TaskTable} (place : ℕ) → Tells next vs t → ranges_from vs next place ≡ Ok tt
unfolding ranges_from
tells-ranges place end = refl
tells-ranges place (one {due} {v} {vs} l h x) = ranges_in due v vs place l h ∙ tells-ranges _ x

-- an array of which the first i entries were put into zeros, and all of it
fill_to : List ℕ → ℕ → List ℕ
fill_to l zero = replicate count_max 0
fill_to l (suc i) = set (fill_to l i) i (at l i)

fill_to-filled : (l : List ℕ) (i : ℕ) → i ≤ count_max → Filled (at l) (λ w. 0) count_max i (fill_to l i)
unfolding fill_to
fill_to-filled l zero h = fill-zeros (at l) count_max
fill_to-filled l (suc i) h = rw (← (add-one i)) (fill_more (at l i) h refl (fill_to-filled l i (omega arith)))

fill_to-all : (l : List ℕ) (n : ℕ) → n ≤ count_max → length l ≡ count_max → ((v : ℕ) → n ≤ v → at l v ≡ 0) → fill_to l n ≡ l
fill_to-all l n h e past = let f = fill_to-filled l n h in
    same_number_lists (fill_to l n) l (f.size ∙ sym e) λ v _.
    ⊎_elim (λ (q : v < n). f.done v q) (λ (q : n ≤ v). f.rest v q ∙ sym (past v q)) (lt-or-ge v n)

-- the table with the nodes before node i
so_far : TaskTable → ℕ → TaskTable
so_far t i = record { edition = t.edition; id = t.id; period = t.period; count = t.count; execution = fill_to t.execution i; parents = fill_to t.parents i }

-- a table in range is one whose nodes are all filled in
pub range-filling : (t : TaskTable) → InRange t → Full t → Filling t.count t
range-filling t r h = record {
  head = ((r.edition-low, r.edition-high), (r.id-low, r.id-high), (r.period-low, r.period-high));
  size = (r.count_low, r.count-high);
  executions = record { size = h.0; done = λ v l. (r.execution-low v l, r.execution-high v); rest = r.execution-past };
  sets = record { size = h.1; done = λ v l. r.parents-below v; rest = r.parents-past };
}

module _ (t : TaskTable) (f : Filling t.count t) where
  tells-from : (i : ℕ) → i ≤ t.count → (ws : List ℕ) → Tells (node_from (so_far t i) i) ws t → Tells (number edition) (numbers_to t i ++ ws) t
  unfolding numbers_to so_far fill_to
  tells-from zero l ws p = let h = f.head in
      one h.0.0 h.0.1 (one h.1.0 h.1.1 (one h.2.0 h.2.1 (one f.size.0 f.size.1 p)))
  tells-from (suc i) l ws p =
      let e = at t.execution i in let w = at t.parents i in
      let b = f.executions.done i l in
      let q = tells-node (so_far t i) t i e w ws f.size.1 (f.sets.done i l) b.0 b.1 (rw (add-one i) p) in
      rw (append_assoc (numbers_to t i) (node_numbers e w) ws)
      (tells-from i (omega arith) (node_numbers e w ++ ws) (rw (lt-ltb i t.count l) q))

  so_far-all : so_far t t.count ≡ t
  unfolding so_far
  so_far-all = ap₂ (λ (a b : List ℕ). record { edition = t.edition; id = t.id; period = t.period; count = t.count; execution = a; parents = b })
      (fill_to-all t.execution t.count f.size.1 f.executions.size f.executions.rest)
      (fill_to-all t.parents t.count f.size.1 f.sets.size f.sets.rest)

  -- its numbers tell it, so they are all in range, and where some node runs it reads back
  record-tells : Tells (number edition) (numbers_of t) t
  record-tells =
      let last : Tells (node_from t t.count) [] t = rw (le-ltb t.count t.count (le_refl t.count)) end in
      rw (append-nil (numbers_to t t.count)) at (tells-from t.count (le_refl t.count) [] (rw so_far-all last))

  pub table-ranges : ranges (numbers_of t) ≡ Ok tt
  table-ranges = tells-ranges 0 record-tells

  pub record-read : SomeRuns t → reading_of (record_of t) ≡ table_read t
  record-read runs = written_read _ t record-tells runs
