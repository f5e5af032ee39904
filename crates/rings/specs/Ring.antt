-- Refusal 10 with its node and its loop: "the smallest node that is reached from itself, with a loop through it shown as a set of nodes".
-- Any such set would do; ours is one from which no node can be left out, found as docs/DECISIONS.md, 31, says.
use Rattle.std.specs.Prelude.{Bool, List, ℕ, zero, suc}
use Rattle.plain.specs.Pick.{pick}
use Rattle.refusals.specs.declared.Refusal.{Refusal}
use Rattle.refusals.specs.Refusal.{looped}
use Rattle.sets.specs.Rule.{set_of}
use Rattle.sets.specs.Without.{without_member}
use Rattle.ways.specs.Closure.{some, goes_round}
use Rattle.rings.specs.Inside.{inside}

-- the smallest number below n for which the test holds, where it holds for one
unfoldable pub smallest : ℕ → (ℕ → Bool) → ℕ
smallest zero f = 0
smallest (suc n) f = pick (some n f) (smallest n f) n

-- "the smallest node that is reached from itself"
abbrev pub named : List ℕ → ℕ → ℕ
named P n = smallest n (goes_round P n)

-- S without k where r is still reached from itself inside what is left, else S; r itself stays, since no way inside a set without r comes to r
unfoldable pub unless_needed : List ℕ → (n r k S : ℕ) → ℕ
unless_needed P n r k S = pick (goes_round (inside P n (without_member k S)) n r) (without_member k S) S

-- all n nodes, less those below k that were left out, from node 0 upward
unfoldable pub ring_after : List ℕ → (n r k : ℕ) → ℕ
ring_after P n r zero = set_of n (λ v. 1)
ring_after P n r (suc k) = unless_needed P n r k (ring_after P n r k)

-- "a loop through it": what remains when every node was tried
abbrev pub ring : List ℕ → (n r : ℕ) → ℕ
ring P n r = ring_after P n r n

-- refusal 10 of a task in which some node is reached from itself
abbrev pub loop_of : List ℕ → ℕ → Refusal
loop_of P n = looped (named P n) (ring P n (named P n))
