-- `planchecks::two_records` meets its contract: the first record's refusal, the second's, then bytes that follow it, then the two parts of the input.
use mathlib.Core.Path.{◌≡◌, sym, ap, ap₂, ◌∙◌}
use mathlib.Core.List.{List}
use Prim.Native.Nat.{ℕ, ◌+◌, ◌≤◌}
use native.Mathlib.Omega.{arith}
use lib.ListN.{length}
use Rattle.std.specs.Prelude.{Result, Ok, Err}
use Rattle.refusals.specs.declared.Refusal.{Refusal}
use Rattle.refusals.proofs.Out.{goes-out}
use Rattle.planchecks.specs.Pair.{on_second}
use Rattle.planchecks.specs.Inner.Pair.{two_records}
use Rattle.planchecks.proofs.Pairs.{record-inside, pair-refused, pair-first, second-refused, second-followed, second-last}
use Rattle.planchecks.proofs.two_records.Goals as goal
use Rattle.planchecks.proofs.two_records.Goals.{In_ok-first, In_ok-second}

-- two records as they are
abbrev pair : (bytes plan : List ℕ) → Result (List ℕ × List ℕ) Refusal
pair bytes plan = Ok (bytes, plan)

pub returns-in_err-first : goal.returns-in_err-first
returns-in_err-first c = rw (goes-out _ _ c.from_residual.ensures.1) (sym (pair-refused Err pair c.args.input.now (sym c.in_err-first.ensures)))

-- past the first
inside : (c : In_ok-first) → c.in_ok-first.first.next + c.in_ok-first.first.value ≤ length c.args.input.now
inside c = record-inside c.args.input.now 0 (sym c.in_ok-first.ensures)

first : (c : In_ok-first) → two_records c.args.input.now ≡ on_second Err pair c.args.input.now c.in_ok-first.first.next c.in_ok-first.first.value
first c = pair-first Err pair c.args.input.now (sym c.in_ok-first.ensures)

pub overflow_add-first : goal.overflow_add-first
overflow_add-first c = omega (arith, inside (goal.at.overflow_add-first c).In_ok-first)

pub record_at-requires-2 : goal.record_at-requires-2
record_at-requires-2 c = inside (goal.at.record_at-requires-2 c).In_ok-first

pub returns-in_err-second : goal.returns-in_err-second
returns-in_err-second c =
    rw (goes-out _ _ c.from_residual-in_err-second.ensures.1) (sym (first (goal.at.returns-in_err-second c).In_ok-first ∙ second-refused Err pair c.args.input.now _ _ (sym c.in_err-second.ensures)))

-- past the second
end : (c : In_ok-second) → c.in_ok-second.second.next + c.in_ok-second.second.value ≤ length c.args.input.now
end c = record-inside c.args.input.now _ (sym c.in_ok-second.ensures)

pub overflow_add-end : goal.overflow_add-end
overflow_add-end c = omega (arith, end (goal.at.overflow_add-end c).In_ok-second)

pub returns-then-end-input : goal.returns-then-end-input
returns-then-end-input c =
    ap Err c.at.ensures
    ∙ sym (first (goal.at.returns-then-end-input c).In_ok-first ∙ second-followed Err pair c.args.input.now _ _ (sym c.in_ok-second.ensures) c.if-end-input.true)

pub part_of-requires : goal.part_of-requires
part_of-requires c = inside (goal.at.part_of-requires c).In_ok-first

pub part_of-requires-2 : goal.part_of-requires-2
part_of-requires-2 c = end (goal.at.part_of-requires-2 c).In_ok-second

pub returns : goal.returns
returns c =
    ap₂ pair c.part_of.ensures c.part_of-2.ensures
    ∙ sym (first (goal.at.returns c).In_ok-first ∙ second-last Err pair c.args.input.now _ _ (sym c.in_ok-second.ensures) c.if-end-input.false)
