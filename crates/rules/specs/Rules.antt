-- "The judge accepts exactly when ..": eight rules, each a test of a plan's words, in the request's order.
use Rattle.std.specs.Prelude.{Bool, List, [], ◌∷◌, ℕ, ◌+◌, ◌*◌, eqb, leb}
use Rattle.plain.specs.At.{at}
use Rattle.plain.specs.Sums.{sum_to}
use Rattle.plain.specs.Tests.{both, between, all_to, first_failed}
use Rattle.tables.specs.Limits.{over_max}
use Rattle.ways.specs.Ways.{begin_by}
use Rattle.shares.specs.Density.{millionths}
use Rattle.shares.specs.Words.{threads_at, length_at, numerator_at, offset_at, deadline_at, density_at}

-- what a plan is held to: its task's period, work, nodes with their parents and executions, its own cut, and the sum over the segments that a node runs in
pub record Held : Type 0 where
  pub period : ℕ
  pub work : ℕ
  pub count : ℕ
  pub parents : List ℕ
  pub execution : ℕ → ℕ
  pub segments : ℕ
  pub threads : ℕ → ℕ
  pub lengths : ℕ → ℕ
  pub share : (given : ℕ → ℕ) → (v : ℕ) → ℕ

-- 1, "Q lies in 1.." 8,421,120
abbrev pub over_fits : (w : List ℕ) → Bool
over_fits w = between 1 (at w 0) over_max

-- 2, "the segments are the task's own cut in number, threads and length"
abbrev pub same_cut : Held → (w : List ℕ) → Bool
same_cut h w = both (eqb (at w 1) h.segments) (all_to h.segments (λ j. both (eqb (threads_at w j) (h.threads j)) (eqb (length_at w j) (h.lengths j))))

-- 3, "numerators sum to period × Q"
abbrev pub shared_out : Held → (w : List ℕ) → Bool
shared_out h w = eqb (sum_to (at w 1) (numerator_at w)) (h.period * at w 0)

-- 4, "each node's deadline is the sum over its segments"
abbrev pub summed : Held → (w : List ℕ) → Bool
summed h w = all_to h.count (λ v. eqb (deadline_at w v) (h.share (numerator_at w) v))

-- 5, "offsets follow the parents": 0 without, else the greatest parent's offset plus deadline
abbrev pub followed : Held → (w : List ℕ) → Bool
followed h w = all_to h.count (λ v. eqb (offset_at w v) (begin_by h.parents h.count (λ p. offset_at w p + deadline_at w p) v))

-- 6, "no node's deadline is below half its execution": execution ≤ 2 × deadline / Q
abbrev pub halved : Held → (w : List ℕ) → Bool
halved h w = all_to h.count (λ v. leb (h.execution v * at w 0) (2 * deadline_at w v))

-- 7, "no segment is denser than twice work over period": threads × length over numerator / Q is at most 2 × C / T
abbrev pub thinned : Held → (w : List ℕ) → Bool
thinned h w = all_to (at w 1) (λ j. leb (threads_at w j * length_at w j * at w 0 * h.period) (2 * h.work * numerator_at w j))

-- 8, "densities are rounded as ours"
abbrev pub rounded : Held → (w : List ℕ) → Bool
rounded h w = all_to h.count (λ v. eqb (density_at w v) (millionths (h.execution v) (at w 0) (deadline_at w v)))

-- "the number of the first broken rule in the order above, from 1"; 0 where none is broken
unfoldable pub first_broken : Held → (w : List ℕ) → ℕ
first_broken h w = first_failed 1 (over_fits w ∷ same_cut h w ∷ shared_out h w ∷ summed h w ∷ followed h w ∷ halved h w ∷ thinned h w ∷ rounded h w ∷ [])
