-- `records::Reader::read_ranged` meets its contract: it is the range of the whole number that stands there, and the place after it is inside the record.
use Prim.Native.Nat.{ℕ}
use mathlib.Core.Path.{◌≡◌, sym, ap, ◌∙◌}
use Rattle.refusals.proofs.Out.{goes-out}
use Rattle.refusals.specs.Numbers.{number_of}
use Rattle.records.specs.Ranged.{ranged}
use Rattle.records.specs.Inner.Reader.{step_to}
use Rattle.records.proofs.Cases.{whole_is}
use Rattle.records.proofs.Inside.{passed, found_inside}
use Rattle.records.proofs.Reader.read_ranged.Goals as goal
use Rattle.records.proofs.Reader.read_ranged.Goals.{After-in_range}

pub step_of-whole-requires : goal.step_of-whole-requires
step_of-whole-requires c = found_inside _ c.args.self.now.bytes.now _ _ c.read_number-found.ensures c.args.self.now.inside

-- what the range was tried of is the whole number, and so what came of it is what the definition has
tried : (c : After-in_range) → (let a = c.args in c.in_range.result ≡ ranged (number_of a.broken) a.low a.high a.self.now.bytes.now a.self.now.at)
tried c = let a = c.args in
    c.in_range.ensures _ a.self.now.bytes.now (c.step_of-whole.ensures ∙ whole_is _ _ _ _ c.read_number-found.ensures)
    ∙ ap (λ (broken : ℕ). ranged broken a.low a.high a.self.now.bytes.now a.self.now.at) c.number.ensures

pub returns-in_err-read-clause-step : goal.returns-in_err-read-clause-step
returns-in_err-read-clause-step c = ap (λ r. step_to r c.args.self.now.at) (goes-out _ _ c.from_residual.ensures.1)
    ∙ sym c.in_err-read.was ∙ tried (goal.at.returns-in_err-read-clause-step c).After-in_range

pub invariant_of-self : goal.invariant_of-self
invariant_of-self c = let p = passed _ _ _ _ _ _ _ _ _ (tried (goal.at.invariant_of-self c).After-in_range) c.in_ok-read.was c.args.self.now.inside in record { inside = p.inside }

pub returns-clause-step : goal.returns-clause-step
returns-clause-step c = sym c.in_ok-read.was ∙ tried (goal.at.returns-clause-step c).After-in_range
