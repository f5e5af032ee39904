-- `records::Reader::read_parents` meets its contract. The loop's invariant: the parents still to be read, put into the set so far, make the whole set;
-- the set holds only numbers below `low`.
use Prim.Native.Nat.{◌+◌, ◌-◌, ◌^◌, ◌<◌}
use mathlib.Core.Path.{◌≡◌, refl, sym, ap, ◌∙◌}
use native.Mathlib.Omega.{arith}
use Rattle.refusals.specs.Numbers.{bad_parent}
use Rattle.refusals.proofs.Out.{goes-out}
use Rattle.numbers.specs.Number.{record_more}
use Rattle.records.specs.Inner.Reader.{step_to}
use Rattle.records.proofs.Cases.{then-refused, parents-none, parents-more, parents-next}
use Rattle.records.proofs.Inside.{Passed, passed, set_room, bit_word, word_room}
use Rattle.records.proofs.Reader.read_parents.Goals as goal
use Rattle.records.proofs.Reader.read_parents.Goals.{In_ok-parent}

pub loop-k-init : goal.loop-k-init
loop-k-init c = let n = c.args.count in let e : n - 0 ≡ n = omega arith in (rw e, omega arith, omega arith, refl)

-- the parent that a turn read
parent : (c : In_ok-parent) →
    Passed record_more bad_parent c.loop-k.low (c.args.n - 1) c.loop-k.self.bytes.now c.loop-k.self.at c.in_ok-parent.parent c.read_ranged.new.self.at
parent c = passed _ _ _ _ _ _ _ _ _ c.in_ok-parent.ensures.step refl c.loop-k.self.inside

-- the set has room for it
room : (c : In_ok-parent) → c.loop-k.set + 2 ^ c.in_ok-parent.parent < 2 ^ (c.in_ok-parent.parent + 1)
room c = set_room _ _ _ c.loop-k.invariant.2 (parent c).least

pub returns-in_err-parent-clause-step : goal.returns-in_err-parent-clause-step
returns-in_err-parent-clause-step c = let l = c.loop-k in
    ap (λ r. step_to r c.read_ranged.new.self.at) (goes-out _ _ c.from_residual.ensures.1)
    ∙ sym (l.invariant.0 ∙ parents-more _ _ _ _ _ (c.args.count - l._k) (omega arith) ∙ then-refused _ _ _ _ (sym c.in_err-parent.ensures.step))

pub overflow_shl-set : goal.overflow_shl-set
overflow_shl-set c = let p = parent (goal.at.overflow_shl-set c).In_ok-parent in omega arith

pub overflow_add-set : goal.overflow_add-set
overflow_add-set c = let p = parent (goal.at.overflow_add-set c).In_ok-parent in
    record { fits = word_room _ _ _ c.loop-k.invariant.2 p.least (omega arith) }

pub overflow_add-low : goal.overflow_add-low
overflow_add-low c = let p = parent (goal.at.overflow_add-low c).In_ok-parent in omega arith

pub loop-k-preserved : goal.loop-k-preserved
loop-k-preserved c = let p = parent (goal.at.loop-k-preserved c).In_ok-parent in let l = c.loop-k in
    let one : (c.args.count - l._k) - 1 ≡ c.args.count - (l._k + 1) = omega arith in
    rw (bit_word c.in_ok-parent.parent (omega arith)) (
      l.invariant.0 ∙ parents-next _ _ _ _ _ (c.args.count - l._k) _ _ (omega arith) p.is ∙ rw (one, c.in_ok-parent.ensures.record),
      omega arith,
      room (goal.at.loop-k-preserved c).In_ok-parent,
      c.in_ok-parent.ensures.record ∙ l.invariant.3,
    )

pub returns-clause-step : goal.returns-clause-step
returns-clause-step c = let l = c.loop-k in sym (l.invariant.0 ∙ parents-none _ _ _ _ _ (c.args.count - l._k) (omega arith))
