-- What the functions are lent in place of the task's cut: the words of its own plan.
use Rattle.std.specs.Prelude.{◌≡◌, true, List, ℕ, suc, ◌+◌, ◌*◌, ◌^◌, ◌≤◌, ◌<◌, length}
use Rattle.plain.specs.At.{at}
use Rattle.plain.specs.Sums.{sum_to}
use Rattle.tables.specs.Limits.{period_max, count_max, run_max, work_max}
use Rattle.ways.specs.Inner.Tidy.{Tidy}
use Rattle.segments.specs.Running.{runs}
use Rattle.shares.specs.Inner.Asked.{numerator_max}
use Rattle.shares.specs.Words.{threads_at, length_at, numerator_at, offset_at, deadline_at}
use Rattle.rules.specs.Rules.{Held, over_fits, same_cut, shared_out}

-- segment j in stretched time, as the own plan has it: it begins where those before it end
abbrev pub begins_at : (own : List ℕ) (j : ℕ) → ℕ
begins_at own j = sum_to j (numerator_at own)

-- the sum over the segments that a node runs through in the own plan, from its offset to its deadline
unfoldable pub windowed : (own : List ℕ) (given : ℕ → ℕ) (v : ℕ) → ℕ
windowed own given v = sum_to (at own 1) (λ j. runs (offset_at own v) (offset_at own v + deadline_at own v) (begins_at own j) (begins_at own (suc j)) * given j)

-- what a plan is held to, by the own plan's words
abbrev pub held_by : (own P X : List ℕ) (T C : ℕ) → Held
held_by own P X T C = record {
  period = T;
  work = C;
  count = at own 2;
  parents = P;
  execution = at X;
  segments = at own 1;
  threads = threads_at own;
  lengths = length_at own;
  share = windowed own;
}

-- words that hold a plan of at most 64 segments and 64 nodes
pub record PlanIn (w : List ℕ) : Type 0 where
  pub segments : at w 1 ≤ count_max
  pub nodes : at w 2 ≤ count_max
  pub room : 3 + 3 * at w 1 + 3 * at w 2 ≤ length w

-- what the functions ask: two plans of as many nodes, the own one of a task in range, the other of words that nine groups hold
pub record RulesIn (own w P X : List ℕ) (T C : ℕ) : Type 0 where
  pub own_in : PlanIn own
  pub plan-in : PlanIn w
  pub same_nodes : at w 2 ≡ at own 2
  pub words_small : (k : ℕ) → at w k < 2 ^ 63
  pub whole-small : sum_to (at own 1) (numerator_at own) ≤ numerator_max
  pub ends-small : (v : ℕ) → v < at own 2 → offset_at own v + deadline_at own v ≤ numerator_max
  pub pieces : (j : ℕ) → j < at own 1 → threads_at own j * length_at own j ≤ C
  pub period : T ≤ period_max
  pub work-low : 1 ≤ C
  pub work : C ≤ work_max
  pub tidy : Tidy P (at own 2)
  pub executions : (v : ℕ) → at X v ≤ run_max

-- what the rules from the fourth on ask: the first three hold
pub record SharedIn (own w P X : List ℕ) (T C : ℕ) : Type 0 where
  pub rules : RulesIn own w P X T C
  pub over : over_fits w ≡ true
  pub cut : same_cut (held_by own P X T C) w ≡ true
  pub shared : shared_out (held_by own P X T C) w ≡ true
