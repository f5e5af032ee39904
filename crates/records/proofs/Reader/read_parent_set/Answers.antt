-- `records::Reader::read_parent_set` meets its contract: the count is read first, and then that many parents.
use mathlib.Core.Path.{refl, sym, ap, ◌∙◌}
use native.Mathlib.Omega.{arith}
use Rattle.refusals.specs.Numbers.{bad_parent}
use Rattle.refusals.proofs.Out.{goes-out}
use Rattle.numbers.specs.Number.{record_more}
use Rattle.records.specs.Parents.{parent_set}
use Rattle.records.specs.Inner.Reader.{step_to}
use Rattle.records.proofs.Cases.{then-read, then-refused}
use Rattle.records.proofs.Inside.{Passed, passed}
use Rattle.records.proofs.Reader.read_parent_set.Goals as goal
use Rattle.records.proofs.Reader.read_parent_set.Goals.{In_ok-count}

pub returns-in_err-count-clause-step : goal.returns-in_err-count-clause-step
unfolding parent_set
returns-in_err-count-clause-step c = ap (λ r. step_to r c.read_ranged.new.self.at) (goes-out _ _ c.from_residual.ensures.1) ∙ sym (then-refused _ _ _ _ (sym c.in_err-count.ensures.step))

-- the parent count
count : (c : In_ok-count) → (let a = c.args in
    Passed record_more bad_parent 0 a.n a.self.now.bytes.now a.self.now.at c.in_ok-count.count c.read_ranged.new.self.at)
count c = passed _ _ _ _ _ _ _ _ _ c.in_ok-count.ensures.step refl c.args.self.now.inside

pub read_parents-requires : goal.read_parents-requires
read_parents-requires c = let p = count (goal.at.read_parents-requires c).In_ok-count in omega arith

pub returns-clause-step : goal.returns-clause-step
unfolding parent_set
returns-clause-step c = c.read_parents.ensures.step ∙ rw c.in_ok-count.ensures.record (sym (then-read _ _ _ _ _ (count (goal.at.returns-clause-step c).In_ok-count).is))
