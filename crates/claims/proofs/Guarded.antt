-- A day of guarded admissions: the empty board is a yes, an accepted admission leaves a yes, a withdrawal keeps one, and nothing else changes a row.
use mathlib.Core.Path.{ap, subst}
use mathlib.Core.List.{List, [], ◌∷◌}
use Prim.Native.Nat.{ℕ}
use native.Mathlib.Decide.{ℕ_discrete}
use Rattle.boards.specs.declared.Row.{Row}
use Rattle.boards.specs.Change.{answer_to, withdrawn}
use Rattle.boards.proofs.Keeping.{withdrawn-refused}
use Rattle.guards.specs.Guarded.{admission}
use Rattle.planner.specs.Calls.{Lent}
use Rattle.claims.specs.Ask.{SaysYes}
use Rattle.claims.specs.Calls.{Call, State, rows_after, empty_day, after_call, after_calls}
use Rattle.claims.specs.Calls.Call.{note, admit, withdraw, ask, ask_to_end}
use Rattle.claims.specs.Guarded.{GuardedBy, AllGuarded, OfGuarding}
use Rattle.claims.specs.Guarded.AllGuarded.{none, more}
use Rattle.claims.proofs.Admit.{admit-untouched, admit-fits}
use Rattle.claims.proofs.Sales.{of-sales}

module _ (m : ℕ) where
  -- a call that is guarded keeps a yes
  yes-kept : (call : Call) (rows : List Row) → GuardedBy m call → SaysYes rows m → SaysYes (rows_after call rows) m
  yes-kept (note bytes words cost) rows g y = absurd g
  yes-kept (admit bytes words cores cost) rows g y = elim (ℕ_discrete (answer_to (admission bytes words rows cores cost).change).refusal 0) [
    | yes z ↦ subst (SaysYes _) g (admit-fits bytes words rows cores cost z)
    | no n ↦ rw (ap (λ (l : Lent). l.rows) (admit-untouched bytes words rows cores cost n)) y
  ]
  yes-kept (withdraw id) rows g y = elim (ℕ_discrete (answer_to (withdrawn rows id)).refusal 0) [
    | yes z ↦ of-sales.preemptive.withdrawal rows m id y z
    | no n ↦ rw (withdrawn-refused rows id n) y
  ]
  yes-kept (ask cores) rows g y = y
  yes-kept (ask_to_end cores) rows g y = y

  -- so does a list of them
  yes-stays : (calls : List Call) → AllGuarded m calls → (s : State) → SaysYes s.rows m → SaysYes (after_calls calls s).rows m
  unfolding after_calls after_call
  yes-stays [] none s y = y
  yes-stays (call ∷ calls) (more g gs) s y = yes-stays calls gs (after_call call s) (yes-kept call s.rows g y)

-- from the empty board
pub of-guarding : OfGuarding
of-guarding m calls low high g = yes-stays m calls g empty_day (of-sales.preemptive.empty-board m low high)
