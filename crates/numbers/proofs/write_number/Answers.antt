-- `numbers::write_number` meets its contract: each byte that is stored leaves the form of what is left to be stored after it.
use Prim.Native.Nat.{ℕ, suc, ◌+◌, ◌/◌, ◌%◌, ◌^◌, ◌<◌}
use mathlib.Core.Path.{◌≡◌, sym, ap, ◌∙◌}
use mathlib.Core.List.{[], ◌∷◌}
use native.Mathlib.Numerals.{add-one}
use native.Mathlib.Omega.{arith}
use lib.ListN.{length, set, length-set}
use lib.Seq.{sets}
use Rattle.numbers.specs.Shortest.{shortest}
use Rattle.numbers.proofs.Shortest.{shortest-last, shortest-next}
use Rattle.numbers.proofs.write_number.Goals as goal
use Rattle.numbers.proofs.write_number.Goals.{After-loop-left, In-loop-left}

-- the byte that is stored, and the form after it; and the last byte
next : (c : In-loop-left) → (let l = c.loop-left in
    (m : ℕ) × (shortest l.invariant.0 l.left ≡ (128 + l.left % 128) ∷ shortest m (l.left / 128)) × (l.left / 128 < 128 ^ suc m))
next c = shortest-next _ _ c.loop-left-test.true c.loop-left.invariant.4

last : (c : After-loop-left) → (let l = c.loop-left in shortest l.invariant.0 l.left ≡ l.left ∷ [])
last c = shortest-last _ _ c.loop-left-test.false

pub bounds-bytes-at : goal.bounds-bytes-at
bounds-bytes-at c = omega (arith, ap length (next (goal.at.bounds-bytes-at c).In-loop-left).1)

pub loop-left-preserved : goal.loop-left-preserved
loop-left-preserved c = let l = c.loop-left in let n = next (goal.at.loop-left-preserved c).In-loop-left in (
  n.0,
  rw (add-one l.at) (l.invariant.1 ∙ ap (sets l.bytes l.at) n.1),
  omega (arith, l.invariant.2, ap length n.1),
  length-set l.bytes l.at (128 + l.left % 128) ∙ l.invariant.3,
  n.2,
)

pub bounds-bytes-at-2 : goal.bounds-bytes-at-2
bounds-bytes-at-2 c = omega (arith, ap length (last (goal.at.bounds-bytes-at-2 c).After-loop-left))

pub returns : goal.returns
returns c = let l = c.loop-left in let low : l.left % 128 ≡ l.left = omega (arith, c.loop-left-test.false) in
    record { value = omega (arith, l.invariant.2, ap length (last (goal.at.returns c).After-loop-left)); bytes_after = ap (set l.bytes l.at) low ∙ sym (l.invariant.1 ∙ ap (sets l.bytes l.at) (last (goal.at.returns c).After-loop-left)) }
