-- What is promised of every public call.
use Rattle.std.specs.Prelude.{◌≡◌, List, ℕ}
use Rattle.refusals.specs.After.{After}
use Rattle.claims.specs.Rule.{Rule, OnlyWhen, IsAccepted, IsRefused}

-- of whatever the call's contract allows: `lent` is what was lent, `left v` what an accepted call with the value v leaves of it
pub record Promise {Lent : Type 0} (allows : After Lent → Type 0) (lent : Lent) (rules : List Rule) (value : ℕ → Type 0) (left : ℕ → Lent) : Type 0 where
  -- "each public call's contract determines the answer and the later content of the plan and board, refusals too"
  pub one_answer : (a b : After Lent) → allows a → allows b → a ≡ b
  -- demand 2: each refusal only on its rule, in document 01's order; else the value that is due
  pub only-when : (a : After Lent) → allows a → OnlyWhen rules value a.answer
  -- a set of nodes stands beside refusal 10 alone: "all other answers show the empty set"
  pub empty-set : (a : After Lent) → allows a → (a.answer.refusal ≡ 10 → ⊥) → a.answer.ring ≡ 0
  -- demand 1: "A refusal returns its number and place ..; plan words and board rows stay untouched"
  pub untouched : (a : After Lent) → allows a → IsRefused a.answer → a.lent ≡ lent
  -- demand 2: what an accepted call writes
  pub written : (a : After Lent) → allows a → IsAccepted a.answer → a.lent ≡ left a.answer.value
