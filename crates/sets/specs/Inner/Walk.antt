-- A walk along a set, from its first member on.
use Rattle.std.specs.Prelude.{◌≡◌, ℕ, ◌-◌, ◌^◌, ◌<◌, Option, MatchOption}
use Rattle.sets.specs.Member.{Member, bit}
use Rattle.sets.specs.declared.Members.{Members}

-- p is the first member of s, and r has the others
pub record Walk (s p r : ℕ) : Type 0 where
  pub lt : p < 64
  pub mem : Member p s
  pub low : (k : ℕ) → k < p → bit k s ≡ 0
  pub out : r ≡ s - 2 ^ p
  pub less : r < s

-- a call gave the first of the members that were left, and left the others; or none was left
abbrev pub TakesFirst : Members → Option ℕ → Members → Type 0
TakesFirst s r t = MatchOption r (s.left ≡ 0) (λ p. Walk s.left p t.left)
