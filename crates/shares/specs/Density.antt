-- Densities: "A node's density is execution over deadline. It is kept in millionths rounded up".
use Rattle.std.specs.Prelude.{ℕ, ◌+◌, ◌*◌, ◌-◌, ◌/◌, eqb}
use Rattle.plain.specs.Pick.{pick}
use Rattle.tables.specs.Limits.{million}

-- "the least whole number not below execution × Q × 1,000,000 / numerator"; "A node with 0 .. has deadline 0, density 0"
unfoldable pub millionths : (execution over numerator : ℕ) → ℕ
millionths execution over numerator = pick (eqb numerator 0) 0 ((execution * over * million + (numerator - 1)) / numerator)
