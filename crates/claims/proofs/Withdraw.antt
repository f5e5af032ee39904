-- Withdrawing answers by its rules, and an accepted withdrawal frees the one row with the id.
use mathlib.Core.Path.{◌≡◌, refl}
use mathlib.Core.Logic.{inl, inr, ⊎_elim}
use mathlib.Core.List.{List}
use Prim.Native.Nat.{ℕ, ◌<◌}
use lib.ListN.{set}
use borrow.Author.Tests.{eqb-false}
use Rattle.std.specs.Prelude.{Result, Ok}
use Rattle.refusals.specs.Numbers.{not_standing, unsound_board}
use Rattle.refusals.specs.declared.Refusal.{Refusal}
use Rattle.boards.specs.declared.Row.{Row}
use Rattle.boards.specs.declared.Change.{Change}
use Rattle.boards.specs.Row.{free_row, rows_max}
use Rattle.boards.specs.Sound.{Sound}
use Rattle.boards.specs.Find.{place_of}
use Rattle.boards.specs.Change.{answer_to, changed, withdrawn}
use Rattle.boards.proofs.Cases.{Withdrawing, withdrawing}
use Rattle.boards.proofs.Cases.Withdrawing.{unsound, absent, frees}
use Rattle.boards.proofs.Keeping.{withdrawn-refused}
use Rattle.planner.specs.Calls.{withdraw_call}
use Rattle.claims.specs.Rule.{Decides, IsAccepted}
use Rattle.claims.specs.Board.{HasId, Lowest}
use Rattle.claims.specs.Withdraw.{withdraw_rules, OfWithdrawing}
use Rattle.claims.proofs.Rule.{single, gives, not-given}
use Rattle.claims.proofs.Promise.{promised}
use Rattle.claims.proofs.Board.{one-lowest, some_id, no-id, lowest-id}

module _ (rows : List Row) (id : ℕ) where
  -- its rules decide its answer
  decides : Decides (withdraw_rules rows id) (Lowest (HasId rows id)) (answer_to (withdrawn rows id))
  decides = go (withdrawing rows id)
    where
      go : {c : Result Change Refusal} → Withdrawing rows id c → Decides (withdraw_rules rows id) (Lowest (HasId rows id)) (answer_to c)
      go (unsound u) = inl (gives 17 u refl)
      go (absent s (inl z)) = inr (not-given (λ u. u s), inl (gives 14 (inl z) refl))
      go (absent s (inr h)) = inr (not-given (λ u. u s), inl (gives 14 (inr (no-id s id h)) refl))
      go (frees s z h) = inr (not-given (λ u. u s), inr (not-given (⊎_elim z (λ n. n (some_id s id h))), (place_of id rows, lowest-id s id h, refl)))

  -- the id stands, and its row is freed
  pub record Withdrew (c : Result Change Refusal) : Type 0 where
    pub sound : Sound rows
    pub some : id ≡ 0 → ⊥
    pub stood : place_of id rows < rows_max
    pub is : c ≡ Ok (record { at = place_of id rows; row = free_row })

  -- an accepted withdrawal is that
  pub withdraw-accepted : IsAccepted (answer_to (withdrawn rows id)) → Withdrew (withdrawn rows id)
  withdraw-accepted = go (withdrawing rows id)
    where
      go : {c : Result Change Refusal} → Withdrawing rows id c → IsAccepted (answer_to c) → Withdrew c
      go (unsound u) z = absurd (eqb-false unsound_board 0 refl z)
      go (absent s a) z = absurd (eqb-false not_standing 0 refl z)
      go (frees s n h) z = record { sound = s; some = n; stood = h; is = refl }

  withdraw-written : IsAccepted (answer_to (withdrawn rows id)) → changed rows (withdrawn rows id) ≡ set rows (answer_to (withdrawn rows id)).value free_row
  withdraw-written z = rw (withdraw-accepted z).is

-- the promise
pub of-withdrawing : OfWithdrawing
of-withdrawing rows id = promised (withdraw_call rows id)
    (withdraw_rules rows id) (Lowest (HasId rows id)) (single _ _, (single _ _, tt)) (one-lowest (HasId rows id)) (decides rows id)
    (withdrawn-refused rows id)
    (withdraw-written rows id)
