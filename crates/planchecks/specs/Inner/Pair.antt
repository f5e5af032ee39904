-- The two records of the input in one value.
use Rattle.std.specs.Prelude.{ℕ, List, Result, Ok, Err}
use Rattle.std.specs.Borrow.{Bor}
use Rattle.refusals.specs.declared.Refusal.{Refusal}
use Rattle.planchecks.specs.Pair.{on_pair}

-- the two records, or the refusal
abbrev pub two_records : (input : List ℕ) → Result (List ℕ × List ℕ) Refusal
two_records input = on_pair Err (λ bytes plan. Ok (bytes, plan)) input

-- what the code hands out of them: parts of the input
abbrev pub contents : Result (Bor (List ℕ) × Bor (List ℕ)) Refusal → Result (List ℕ × List ℕ) Refusal
contents (Ok (bytes, plan)) = Ok (bytes.now, plan.now)
contents (Err r) = Err r
