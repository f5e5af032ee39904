-- `records::read_table` meets its contract: the head's four numbers are read in the order of `reading_of`, each from the place after the one before, and the nodes are the rest.
use mathlib.Core.Path.{◌≡◌, refl, sym, ap, ◌∙◌}
use native.Mathlib.Omega.{arith}
use Rattle.std.specs.Prelude.{Err}
use Rattle.refusals.specs.Numbers.{bad_id, bad_period, bad_count}
use Rattle.refusals.proofs.Out.{goes-out}
use Rattle.tables.specs.declared.TaskTable.{TaskTable}
use Rattle.tables.specs.Limits.{id_max, period_max, count_max}
use Rattle.refusals.specs.Refusal.{on_outcome}
use Rattle.records.specs.Nodes.{table_read, no_table, with_table, nodes}
use Rattle.records.specs.Ranged.{ranged}
use Rattle.records.specs.Reading.{reading_of}
use Rattle.records.specs.Step.{read}
use Rattle.records.proofs.Cases.{then-read, then-refused}
use Rattle.records.proofs.Inside.{passed}
use Rattle.records.proofs.read_table.Goals as goal
use Rattle.records.proofs.read_table.Goals.{In_ok-edition, In_ok-id, In_ok-period, In_ok-count, In_err-id, In_err-period, In_err-count, After-read_nodes}

-- the reader reads one record all along
same-1 : (c : In_ok-edition) → c.read_ranged.new.self.bytes ≡ c.args.bytes
same-1 c = c.in_ok-edition.ensures.record

same-2 : (c : In_ok-id) → c.read_ranged-2.new.self.bytes ≡ c.args.bytes
same-2 c = c.in_ok-id.ensures.record ∙ same-1 (goal.at-In_ok-id c).In_ok-edition

same-3 : (c : In_ok-period) → c.read_ranged-3.new.self.bytes ≡ c.args.bytes
same-3 c = c.in_ok-period.ensures.record ∙ same-2 (goal.at-In_ok-period c).In_ok-id

-- so each number is that of the record at the place after the one before
id : (c : In_ok-id) → ranged bad_id 1 id_max c.args.bytes.now c.read_ranged.new.self.at ≡ read c.in_ok-id.id c.read_ranged-2.new.self.at
id c = rw (sym (same-1 (goal.at-In_ok-id c).In_ok-edition)) (sym c.in_ok-id.ensures.step)

period : (c : In_ok-period) → ranged bad_period 1 period_max c.args.bytes.now c.read_ranged-2.new.self.at ≡ read c.in_ok-period.period c.read_ranged-3.new.self.at
period c = rw (sym (same-2 (goal.at-In_ok-period c).In_ok-id)) (sym c.in_ok-period.ensures.step)

count : (c : In_ok-count) → ranged bad_count 1 count_max c.args.bytes.now c.read_ranged-3.new.self.at ≡ read c.in_ok-count.count c.read_ranged-4.new.self.at
count c = rw (sym (same-3 (goal.at-In_ok-count c).In_ok-period)) (sym c.in_ok-count.ensures.step)

-- and likewise where it is refused
no_id : (c : In_err-id) → ranged bad_id 1 id_max c.args.bytes.now c.read_ranged.new.self.at ≡ Err c.in_err-id.field-0.0
no_id c = rw (sym (same-1 (goal.at-In_err-id c).In_ok-edition)) (sym c.in_err-id.ensures.step)

no_period : (c : In_err-period) → ranged bad_period 1 period_max c.args.bytes.now c.read_ranged-2.new.self.at ≡ Err c.in_err-period.field-0.0
no_period c = rw (sym (same-2 (goal.at-In_err-period c).In_ok-id)) (sym c.in_err-period.ensures.step)

no_count : (c : In_err-count) → ranged bad_count 1 count_max c.args.bytes.now c.read_ranged-3.new.self.at ≡ Err c.in_err-count.field-0.0
no_count c = rw (sym (same-3 (goal.at-In_err-count c).In_ok-period)) (sym c.in_err-count.ensures.step)

pub returns-in_err-edition : goal.returns-in_err-edition
unfolding reading_of
returns-in_err-edition c = ap with_table (goes-out _ _ c.from_residual.ensures.1) ∙ sym (then-refused _ _ _ _ (sym c.in_err-edition.ensures.step))

pub returns-in_err-id : goal.returns-in_err-id
unfolding reading_of
returns-in_err-id c = ap with_table (goes-out _ _ c.from_residual-in_err-id.ensures.1)
    ∙ sym (then-read _ _ _ _ _ (sym c.in_ok-edition.ensures.step) ∙ then-refused _ _ _ _ (no_id (goal.at.returns-in_err-id c).In_err-id))

pub returns-in_err-period : goal.returns-in_err-period
unfolding reading_of
returns-in_err-period c = ap with_table (goes-out _ _ c.from_residual-in_err-period.ensures.1)
    ∙ sym (then-read _ _ _ _ _ (sym c.in_ok-edition.ensures.step) ∙ then-read _ _ _ _ _ (id (goal.at.returns-in_err-period c).In_ok-id)
    ∙ then-refused _ _ _ _ (no_period (goal.at.returns-in_err-period c).In_err-period))

pub returns-in_err-count : goal.returns-in_err-count
unfolding reading_of
returns-in_err-count c = ap with_table (goes-out _ _ c.from_residual-in_err-count.ensures.1)
    ∙ sym (then-read _ _ _ _ _ (sym c.in_ok-edition.ensures.step) ∙ then-read _ _ _ _ _ (id (goal.at.returns-in_err-count c).In_ok-id)
    ∙ then-read _ _ _ _ _ (period (goal.at.returns-in_err-count c).In_ok-period) ∙ then-refused _ _ _ _ (no_count (goal.at.returns-in_err-count c).In_err-count))

pub read_nodes-requires : goal.read_nodes-requires
read_nodes-requires c = let p = passed _ _ _ _ _ _ _ _ _ c.in_ok-count.ensures.step refl c.read_ranged-3.new.self.inside in omega (arith, p.least, p.most)

-- the nodes are those of the head that was read
nodes-so : (c : After-read_nodes) → on_outcome no_table (table_read c.read_nodes.new.table) c.read_nodes.result ≡ reading_of c.args.bytes.now
unfolding reading_of
nodes-so c = let same = c.in_ok-count.ensures.record ∙ same-3 (goal.at-After-read_nodes c).In_ok-period in
    c.read_nodes.ensures
    ∙ ap (λ (zeros : TaskTable). nodes c.in_ok-count.count 0 (record { edition = c.in_ok-edition.edition; id = c.in_ok-id.id; period = c.in_ok-period.period; count = c.in_ok-count.count; execution = zeros.execution; parents = zeros.parents }) c.read_ranged-4.new.self.bytes.now c.read_ranged-4.new.self.at) c.empty.ensures
    ∙ rw same (sym (then-read _ _ _ _ _ (sym c.in_ok-edition.ensures.step) ∙ then-read _ _ _ _ _ (id (goal.at-After-read_nodes c).In_ok-id) ∙ then-read _ _ _ _ _ (period (goal.at-After-read_nodes c).In_ok-period)
    ∙ then-read _ _ _ _ _ (count (goal.at-After-read_nodes c).In_ok-count)))

pub returns-in_err-read_nodes : goal.returns-in_err-read_nodes
returns-in_err-read_nodes c = ap with_table (goes-out _ _ c.from_residual-in_err-read_nodes.ensures.1)
    ∙ ap (on_outcome no_table (table_read c.read_nodes.new.table)) (sym c.in_err-read_nodes.was) ∙ nodes-so (goal.at.returns-in_err-read_nodes c).After-read_nodes

pub returns : goal.returns
returns c = ap (on_outcome no_table (table_read c.read_nodes.new.table)) (sym c.in_ok-read_nodes.was) ∙ nodes-so (goal.at.returns c).After-read_nodes
