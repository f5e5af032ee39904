use mathlib.Core.List.{List}
use Prim.Native.Nat.{ℕ, ◌+◌}
use Rattle.plain.specs.At.{at}
use Rattle.shares.specs.Words.{offset_at, deadline_at}
use Rattle.rules.proofs.Lowest.{Left}
use Rattle.rules.proofs.parents_end.Given as goal

-- a node's offset plus deadline
abbrev pub end_of : (plan : List ℕ) → ℕ → ℕ
end_of plan p = offset_at plan p + deadline_at plan p

abbrev pub invariant-loop-p : goal.invariant-loop-p
invariant-loop-p l = Left (at l.plan.words.now 2) l.set (end_of l.plan.words.now) l.latest l.p-iterator.left
