-- Which refusals are a record reader's own.
use Rattle.std.specs.Prelude.{Bool, false, ◌||◌, List, [], ◌∷◌, ℕ, eqb}
use Rattle.refusals.specs.Numbers.{ended, too_long, bad_edition, bad_id, bad_period, bad_count, bad_execution, bad_parent, bytes_follow, not_shortest, none_runs}

-- "1 to 9 as met", and 18 with them; 21 "is the reader's last"
abbrev pub readers : List ℕ
readers = ended ∷ too_long ∷ bad_edition ∷ bad_id ∷ bad_period ∷ bad_count ∷ bad_execution ∷ bad_parent ∷ bytes_follow ∷ not_shortest ∷ none_runs ∷ []

-- the number is one of these
unfoldable pub is_in : ℕ → List ℕ → Bool
is_in number [] = false
is_in number (n ∷ ns) = eqb number n || is_in number ns

-- the number is one of the reader's own
abbrev pub is_readers : ℕ → Bool
is_readers number = is_in number readers
