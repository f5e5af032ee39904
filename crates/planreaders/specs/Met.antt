-- A plan record from the left: which numbers were read before a place, and what is refused there.
use Rattle.std.specs.Prelude.{ℕ, ◌+◌, ◌*◌, ◌≤◌, ◌<◌, ◌≡◌, ◌⊎◌, List, [], ◌∷◌, ◌++◌, length, take, drop}
use Rattle.plain.specs.At.{at}
use Rattle.refusals.specs.Numbers.{ended, too_long, bytes_follow, not_shortest, bad_plan}
use Rattle.tables.specs.Limits.{count_max}
use Rattle.numbers.specs.Number.{plan_more}
use Rattle.numbers.specs.Form.{Whole, Ends, Long, Padded}

-- "each list after its count": the numbers before it are id and Q, or these, the segments' count and their triples
abbrev pub CountDue : (values : List ℕ) → Type 0
CountDue values = (length values ≡ 2) ⊎ (length values ≡ 3 + 3 * at values 2)

-- id, Q, a count and so many triples, and again: the record's numbers are all there
abbrev pub Complete : (values : List ℕ) → Type 0
Complete values = length values ≡ 4 + 3 * at values 2 + 3 * at values (3 + 3 * at values 2)

-- the numbers before a place, reached over numbers that are whole and shortest, with each list's count in 1..64
pub data Met (bytes : List ℕ) : (place : ℕ) (values : List ℕ) → Type 0 where
  begin : Met bytes 0 []
  on : {place v n : ℕ} {values : List ℕ} → Met bytes place values → (Complete values → ⊥) → Whole plan_more (drop place bytes) v n →
      (CountDue values → (1 ≤ v) × (v ≤ count_max)) → Met bytes (place + n) (values ++ v ∷ [])

-- "1, 2 (now at a ninth byte), 18, 24 and 9 as met": the number, and the place that is told with it
pub data Refuses (bytes : List ℕ) : (number place : ℕ) → Type 0 where
  ends : {place : ℕ} {values : List ℕ} → Met bytes place values → (Complete values → ⊥) → Ends plan_more (drop place bytes) → Refuses bytes ended (length bytes)
  long : {place : ℕ} {values : List ℕ} → Met bytes place values → (Complete values → ⊥) → Long plan_more (drop place bytes) → Refuses bytes too_long place
  padded : {place : ℕ} {values : List ℕ} → Met bytes place values → (Complete values → ⊥) → Padded plan_more (drop place bytes) → Refuses bytes not_shortest place
  outside : {place v n : ℕ} {values : List ℕ} → Met bytes place values → CountDue values → Whole plan_more (drop place bytes) v n → (v < 1) ⊎ (count_max < v) → Refuses bytes bad_plan place
  follow : {place : ℕ} {values : List ℕ} → Met bytes place values → Complete values → place < length bytes → Refuses bytes bytes_follow place

-- every number is fine and "Nothing follows."
abbrev pub Spelt : List ℕ → (values : List ℕ) → Type 0
Spelt bytes values = Met bytes (length bytes) values × Complete values

-- "as the plan's words give them": the words of a complete record's numbers, Q, the two counts and the triples
abbrev pub words_in : (values : List ℕ) → List ℕ
words_in values = at values 1 ∷ at values 2 ∷ at values (3 + 3 * at values 2) ∷ take (3 * at values 2) (drop 3 values) ++ drop (4 + 3 * at values 2) values
