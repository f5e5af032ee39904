-- What the call over a lent slice asks before it has a board.
use Rattle.std.specs.Prelude.{ℕ}
use Rattle.refusals.specs.Numbers.{unsound_board}
use Rattle.refusals.specs.declared.Refusal.{Refusal}
use Rattle.refusals.specs.Refusal.{refusal, on_outcome}
use Rattle.plans.specs.Calls.{before_reading}

-- 26, 16, 17 where the lent slice isn't one of 16 rows, so many words being lent
abbrev pub no_board : (words cost : ℕ) → Refusal
no_board words cost = on_outcome (λ r. r) (refusal unsound_board 0) (before_reading words cost)
