-- What is promised where every task comes in by an admission for one number of cores.
use Rattle.std.specs.Prelude.{◌≡◌, List, [], ◌∷◌, ℕ, ◌≤◌}
use Rattle.claims.specs.Ask.{SaysYes}
use Rattle.claims.specs.Calls.{Call, board_after}
use Rattle.claims.specs.Calls.Call.{note, admit, withdraw, ask, ask_to_end}

-- "guarded admissions and withdrawals with one fixed core count": no noting, no admission for another count; anything may be asked
abbrev pub GuardedBy : (cores : ℕ) → Call → Type 0
GuardedBy m (note bytes words cost) = ⊥
GuardedBy m (admit bytes words cores cost) = cores ≡ m
GuardedBy m (withdraw id) = Unit {0}
GuardedBy m (ask cores) = Unit {0}
GuardedBy m (ask_to_end cores) = Unit {0}

-- each call of a list is one of these
pub data AllGuarded (m : ℕ) : List Call → Type 0 where
  none : AllGuarded m []
  more : {call : Call} {calls : List Call} → GuardedBy m call → AllGuarded m calls → AllGuarded m (call ∷ calls)

-- "After any sequence of" these "with one fixed core count of 1..64, from an empty board, the verdict for that count is yes"
abbrev pub OfGuarding : Type 0
OfGuarding = (m : ℕ) (calls : List Call) → 1 ≤ m → m ≤ 64 → AllGuarded m calls → SaysYes (board_after calls) m
