-- Texts that say the same: parted in other ways, with other zeros in front.
use Rattle.std.specs.Prelude.{ℕ, ◌≡◌, true, List, [], ◌∷◌, ◌++◌, replicate, Result, Ok, Err, ⊤}
use Rattle.refusals.specs.declared.Refusal.{Refusal}
use Rattle.graphwords.specs.Words.{Word, words_at}
use Rattle.graphwords.specs.Decimal.{is_decimal}
use Rattle.graphs.specs.declared.Graph.{Graph}

-- the words without their places
unfoldable pub spelt : List Word → List (List ℕ)
spelt [] = []
spelt (w ∷ words) = w.letters ∷ spelt words

-- the words of a text, however they are parted
abbrev pub spelling : (text : List ℕ) → List (List ℕ)
spelling text = spelt (words_at text 0)

-- the same words, some numbers with zeros (48) in front
pub data Zeros : (words padded : List (List ℕ)) → Type 0 where
  none : Zeros [] []
  as_is : {words padded : List (List ℕ)} (w : List ℕ) → Zeros words padded → Zeros (w ∷ words) (w ∷ padded)
  in-front : {words padded : List (List ℕ)} (k : ℕ) (w : List ℕ) → is_decimal w ≡ true → Zeros words padded → Zeros (w ∷ words) ((replicate k 48 ++ w) ∷ padded)

-- a refusal's number, 0 where there is none
abbrev pub number_of : Result ⊤ Refusal → ℕ
number_of (Ok done) = 0
number_of (Err r) = r.number

-- the same table, or a refusal by the same number; places move
abbrev pub SaySame : Graph → Graph → Type 0
SaySame g h = (g.table ≡ h.table) × (number_of g.outcome ≡ number_of h.outcome)
