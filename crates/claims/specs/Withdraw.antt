-- All that is promised of withdrawing (`planner_withdraw`).
use Rattle.std.specs.Prelude.{◌≡◌, ◌⊎◌, List, [], ◌∷◌, ℕ, set}
use Rattle.boards.specs.declared.Row.{Row}
use Rattle.boards.specs.Row.{free_row}
use Rattle.boards.specs.Sound.{Sound}
use Rattle.planner.specs.Allows.{WithdrawAllows}
use Rattle.claims.specs.Rule.{Rule, rule}
use Rattle.claims.specs.Promise.{Promise}
use Rattle.claims.specs.Board.{HasId, SomeRow, Lowest}

-- "Withdrawing checks 17, 14"; 14 is "the id to withdraw isn't standing (0 never stands)"
abbrev pub withdraw_rules : List Row → ℕ → List Rule
withdraw_rules rows id =
    rule 17 (Sound rows → ⊥)
    ∷ rule 14 ((id ≡ 0) ⊎ (SomeRow (HasId rows id) → ⊥))
    ∷ []

-- the promise: the value is the row that had the id, and that row becomes free; "other rows keep their content"
abbrev pub OfWithdrawing : Type 0
OfWithdrawing =
    (rows : List Row) (id : ℕ) → Promise (WithdrawAllows rows id) rows (withdraw_rules rows id) (Lowest (HasId rows id)) (λ row. set rows row free_row)
