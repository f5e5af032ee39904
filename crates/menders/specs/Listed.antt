-- A node's list of parents: "in drawing order, sometimes twice".
use Rattle.std.specs.Prelude.{ℕ, zero, suc, ◌-◌, List, [], ◌∷◌, ◌++◌, Result, Ok, Err}
use Rattle.refusals.specs.Numbers.{bad_parent}
use Rattle.refusals.specs.declared.Refusal.{Refusal}
use Rattle.menders.specs.declared.Spot.{Spot}
use Rattle.menders.specs.Taken.{then_taken, taken}
use Rattle.listings.specs.Lists.{given_max, list_set, reordered, dropped}

-- a list's set, what is to be mended of it, and the spot after it
pub record Listed : Type 0 where
  pub set : ℕ
  pub reordered : ℕ
  pub dropped : ℕ
  pub spot : Spot

-- a list that was read up to a spot: its set, and what is to be mended of it
abbrev pub whole_list : List ℕ → Spot → Result Listed Refusal
whole_list given spot = Ok (record { set = list_set given; reordered = reordered given; dropped = dropped given; spot = spot })

-- "less .. the order rule in 8": k more parents, each below n, after those given before
unfoldable pub listed : (k n : ℕ) → List ℕ → Spot → (given : List ℕ) → Result Listed Refusal
listed zero n bytes spot given = whole_list given spot
listed (suc k) n bytes spot given =
    then_taken Err (taken bad_parent 0 (n - 1) bytes spot) λ p next.
    listed k n bytes next (given ++ p ∷ [])

-- a parent count, "at most 255", which "may exceed n", and that many parents
unfoldable pub parent_list : (n : ℕ) → List ℕ → Spot → Result Listed Refusal
parent_list n bytes spot =
    then_taken Err (taken bad_parent 0 given_max bytes spot) λ k next.
    listed k n bytes next []
