-- `Task::write` meets its contract: its rules are those of `before_writing`, and where none refuses there is room for the head and the nodes, which make up the
-- record.
use Prim.Native.Nat.{ℕ, ◌+◌, ◌≤◌}
use mathlib.Core.Path.{◌≡◌, sym, ap, ap₂, ◌∙◌}
use mathlib.Core.Bool.{Bool}
use mathlib.Core.List.{List}
use native.Mathlib.Omega.{arith}
use lib.ListN.{length}
use lib.Dec.{ltb}
use borrow.Author.Rules.{rules}
use Rattle.std.specs.Prelude.{Result, Ok, Err, ⊤}
use Rattle.refusals.specs.declared.Refusal.{Refusal}
use Rattle.refusals.specs.Numbers.{none_runs, wrong_length}
use Rattle.refusals.specs.InOrder.{in_order}
use Rattle.refusals.specs.Answer.{accepted, answered}
use Rattle.refusals.specs.After.{After}
use Rattle.tables.specs.declared.TaskTable.{TaskTable}
use Rattle.tables.specs.Runs.{all_zero}
use Rattle.numbers.specs.Number.{record_more}
use Rattle.numbers.proofs.Written.{Wrote, wrote-length, wrote-more}
use Rattle.refusals.proofs.Out.{goes-out}
use Rattle.writers.specs.Record.{numbers_written}
use Rattle.writers.specs.Writing.{table_of, outcome_of, unless, before_writing, writing}
use Rattle.writers.specs.Inner.Trial.{record_tried}
use Rattle.writers.specs.Inner.Parts.{head_numbers, nodes_to}
use Rattle.writers.proofs.Table.{trial-head, trial-executions, trial-place}
use Rattle.writers.proofs.Calls.{passes, range-refused, rules-tried, writing-refused, writing-put, parts-length, record-front}
use Rattle.writers.proofs.Task.write.Goals as goal
use Rattle.writers.proofs.Task.write.Goals.{After-write_head, In_ok-size, In_ok-unless, In_ok-unless-2}

-- what is told and what is left, where a rule refuses
record Left (t : TaskTable) (before after : List ℕ) (o : Result ℕ Refusal) : Type 0 where
  pub outcome : outcome_of o ≡ before_writing t before
  pub bytes_after : ◌≡◌ {A = After (List ℕ)} (record { answer = answered o; lent = after }) (writing t before)

out : (t : TaskTable) (bytes : List ℕ) (o : Result ℕ Refusal) {r : Refusal} → o ≡ Err r → before_writing t bytes ≡ Err r → Left t bytes bytes o
out t bytes o e q = rw e (record { outcome = sym q; bytes_after = sym (writing-refused t bytes _ q) })

pub returns-in_err-size : goal.returns-in_err-size
returns-in_err-size c = let a = c.args.self in
    let w = out _ _ _ (goes-out _ _ c.from_residual.ensures.1) (range-refused a.executions.now a.parents.now c.args.bytes.now a.edition a.id a.period _ (sym c.in_err-size.ensures)) in
    record { outcome = w.outcome; bytes_after = w.bytes_after }

-- the ranges are passed; so are the executions
ruled : (c : In_ok-size) → (let a = c.args.self in let b = c.args.bytes.now in before_writing (table_of a.executions.now a.parents.now a.edition a.id a.period) b
    ≡ in_order (Ok tt) (unless (all_zero a.executions.now (length a.executions.now)) none_runs 0) (unless (ltb (length b) c.in_ok-size.size) wrong_length (length b)))
ruled c = rules-tried _ _ _ _ _ _ c.in_ok-size.size (sym c.in_ok-size.ensures)

runs : (c : In_ok-unless) → (let X = c.args.self.executions.now in unless (all_zero X (length X)) none_runs 0 ≡ Ok tt)
runs c = ap (λ (z : Bool). unless z none_runs 0) (sym c.all_zero.ensures) ∙ sym c.in_ok-unless.ensures

pub returns-in_err-unless : goal.returns-in_err-unless
returns-in_err-unless c = let b = c.args.bytes.now in
    let w = out _ _ _ (goes-out _ _ c.from_residual-in_err-unless.ensures.1) (ruled (goal.at.returns-in_err-unless c).In_ok-size
    ∙ ap (λ (o : Result ⊤ Refusal). in_order (Ok tt) o (unless (ltb (length b) c.in_ok-size.size) wrong_length (length b)))
    (ap (λ (z : Bool). unless z none_runs 0) (sym c.all_zero.ensures) ∙ sym c.in_err-unless.ensures)) in
    record { outcome = w.outcome; bytes_after = w.bytes_after }

pub returns-in_err-unless-2 : goal.returns-in_err-unless-2
returns-in_err-unless-2 c =
    let w = out _ _ _ (goes-out _ _ c.from_residual-in_err-unless-2.ensures.1) (ruled (goal.at.returns-in_err-unless-2 c).In_ok-size
    ∙ ap₂ (in_order (Ok tt)) (runs (goal.at.returns-in_err-unless-2 c).In_ok-unless) (sym c.in_err-unless-2.ensures)) in
    record { outcome = w.outcome; bytes_after = w.bytes_after }

-- where they all pass, the numbers are in range and there is room
module _ (c : In_ok-unless-2) where
  pub table : TaskTable
  table = let a = c.args.self in table_of a.executions.now a.parents.now a.edition a.id a.period

  accepted-all : before_writing table c.args.bytes.now ≡ Ok tt
  unfolding table
  accepted-all = ruled (goal.at-In_ok-unless-2 c).In_ok-size ∙ ap₂ (in_order (Ok tt)) (runs (goal.at-In_ok-unless-2 c).In_ok-unless) (sym c.in_ok-unless-2.ensures)

  tried-through : (let a = c.args.self in record_tried a.executions.now a.parents.now a.edition a.id a.period ≡ Ok c.in_ok-size.size)
  tried-through = sym c.in_ok-size.ensures

  room : (let a = c.args.self in
      length (numbers_written (head_numbers a.edition a.id a.period (length a.executions.now)))
      + length (numbers_written (nodes_to a.executions.now a.parents.now (length a.executions.now))) ≤ length c.args.bytes.now)
  unfolding table
  room = let a = c.args.self in rw (← (parts-length a.executions.now a.parents.now a.edition a.id a.period)) (passes _ _ accepted-all).room

pub write_head-requires : goal.write_head-requires
write_head-requires c = let w = (goal.at.write_head-requires c).In_ok-unless-2 in let h = trial-head _ _ _ _ _ _ (tried-through w) in
    record { edition_le_edition_max = (h.edition.1, h.id.1, h.period.1, h.count.1); n_in_bounds = omega (arith, room w) }

-- the head is written
headed : (c : After-write_head) → (let a = c.args.self in
    Wrote record_more c.args.bytes.now 0 (head_numbers a.edition a.id a.period (length a.executions.now)) c.write_head.new.out.bytes.now c.write_head.new.out.at)
headed c = record { bytes = c.write_head.ensures.bytes_after; place = c.write_head.ensures.place }

pub write_nodes-requires : goal.write_nodes-requires
write_nodes-requires c = let w = (goal.at.write_nodes-requires c).In_ok-unless-2 in
    record {
      executions_len = trial-executions _ _ _ _ _ _ (tried-through w);
      executions_in_bounds = omega (arith, room w, wrote-length (headed (goal.at.write_nodes-requires c).After-write_head), c.write_head.ensures.place);
    }

pub returns-clause-outcome : goal.returns-clause-outcome
unfolding table
returns-clause-outcome c = sym (accepted-all (goal.at.returns-clause-outcome c).In_ok-unless-2)

-- what is told and what is left, where none refuses
put : {k l : ℕ} {a b c : List ℕ} → k ≡ l → a ≡ b → b ≡ c → ◌≡◌ {A = After (List ℕ)} (record { answer = accepted k; lent = a }) (record { answer = accepted l; lent = c })
put e p q = λ i. record { answer = accepted (e i); lent = (p ∙ q) i }

pub returns-clause-bytes_after : goal.returns-clause-bytes_after
unfolding table
returns-clause-bytes_after c =
    let w = (goal.at.returns-clause-bytes_after c).In_ok-unless-2 in
    let a = c.args.self in
    let X = a.executions.now in
    let P = a.parents.now in
    let all = wrote-more (headed (goal.at.returns-clause-bytes_after c).After-write_head) (record { bytes = c.write_nodes.ensures.bytes_after; place = c.write_nodes.ensures.place }) in
    let same = c.write_nodes.ensures.same_reference ∙ c.write_head.ensures.same_reference in
    put {b = c.write_nodes.new.out.bytes.now} (trial-place X P a.edition a.id a.period _ (tried-through w)) (search rules)
    (record-front X P c.args.bytes.now a.edition a.id a.period _ _ all (passes _ _ (accepted-all w)).room)
    ∙ sym (writing-put _ _ (accepted-all w))
