-- The step from a cut to the time of the next finish: one segment more, or none where that time is the cut's.
use Rattle.std.specs.Prelude.{◌≡◌, ◌⊎◌, List, ℕ, ◌+◌, ◌≤◌, ◌<◌, set}

-- the time moves on to the finish of node v: segment j has that many threads and is ended by v
pub record Moved (j t v to size : ℕ) (m en m' en' : List ℕ) (j' t' : ℕ) : Type 0 where
  pub up : t < to
  pub number : j' ≡ j + 1
  pub time : t' ≡ to
  pub counts : m' ≡ set m j size
  pub enders : en' ≡ set en j v

-- or nothing changes
pub record Stayed (j t to : ℕ) (m en m' en' : List ℕ) (j' t' : ℕ) : Type 0 where
  pub stop : to ≤ t
  pub number : j' ≡ j
  pub time : t' ≡ t
  pub counts : m' ≡ m
  pub enders : en' ≡ en

-- one of the two
abbrev pub MovedOn : (j t v to size : ℕ) (m en m' en' : List ℕ) (j' t' : ℕ) → Type 0
MovedOn j t v to size m en m' en' j' t' = (Moved j t v to size m en m' en' j' t') ⊎ (Stayed j t to m en m' en' j' t')
