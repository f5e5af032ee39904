-- A building's text fits: each line has a bound that its words alone tell, and there are at most 29 numbers, eight counts and one ending. The ending is there or not by
-- the answer.
use mathlib.Core.Bool.{Bool, true, false}
use mathlib.Core.List.{List, [], ◌∷◌, ◌++◌, append-nil}
use mathlib.Core.Path.{◌≡◌}
use Prim.Native.Nat.{ℕ, ◌+◌, ◌*◌, ◌≤◌, zero-le}
use native.Mathlib.Nat.{le_refl, le_trans}
use native.Mathlib.Omega.{arith}
use lib.Dec.{eqb}
use lib.ListN.{length, length-append}
use borrow.Author.Tests.{eq-eqb, ne_eqb}
use Rattle.plain.specs.At.{at}
use Rattle.plain.specs.Pick.{pick}
use Rattle.plain.proofs.Sums.{sum_to-le}
use Rattle.refusals.specs.declared.Answer.{Answer}
use Rattle.buildings.specs.declared.Building.{Building}
use Rattle.buildings.specs.Counts.{numbers_max}
use Rattle.texts.specs.Text.{bytes}
use Rattle.texts.specs.Lines.{line}
use Rattle.texts.proofs.Sizes.{line_most, line-size}
use Rattle.sheets.specs.Sheet.{sheet_max}
use Rattle.sheets.proofs.Sheets.{length-lines_to}
use Rattle.buildingsheets.specs.Sheet.{count_lines, unless_zero, number_line, number_lines, ended_line, record_counts, task_counts, density_counts, counts_text, building_text}

counts-size : (counts : List (List ℕ × ℕ)) → length (count_lines counts) ≤ line_most counts
unfolding count_lines
counts-size [] = zero-le
counts-size (count ∷ counts) = simp length-append (omega (arith, line-size (count ∷ []), counts-size counts))

-- a text that may be left out
unless-size : (n : ℕ) (text : List ℕ) → length (unless_zero n text) ≤ length text
unless-size n text = by (eqb n 0)
  where
    by : (b : Bool) → length (pick b [] text) ≤ length text
    by true = zero-le
    by false = le_refl (length text)

number_size : (k count : ℕ) → length (number_line k count) ≤ 56
number_size k count = le_trans (unless-size count _) (line-size _)

numbers-size : (refused : List ℕ) → length (number_lines refused) ≤ numbers_max * 56
numbers-size refused = rw length-lines_to (sum_to-le numbers_max 56 _ (λ k _. number_size k (at refused k)))

ended-size : (a : Answer) → length (ended_line a) ≤ 51
ended-size a = le_trans (unless-size a.refusal _) (line-size _)

-- the text's five parts
five-parts : (a b c d e : List ℕ) → length (a ++ b ++ c ++ d ++ e) ≡ length a + length b + length c + length d + length e
five-parts a b c d e = simp length-append

pub building-fits : (b : Building) → length (building_text b) ≤ sheet_max
unfolding building_text
building-fits b =
    rw five-parts (omega (
      arith,
      counts-size (record_counts b.counts),
      numbers-size b.counts.refused,
      counts-size (task_counts b.counts),
      counts-size (density_counts b.counts),
      ended-size b.answer,
    ))

-- the last line, by whether the walk ended early
pub text-whole : (b : Building) → b.answer.refusal ≡ 0 → building_text b ≡ counts_text b.counts
unfolding building_text
text-whole b e = rw (eq-eqb _ _ e) (append-nil (counts_text b.counts))

pub text-ended : (b : Building) → (b.answer.refusal ≡ 0 → ⊥) → building_text b ≡ counts_text b.counts ++ line ((bytes "ended ", b.answer.refusal) ∷ (bytes "at ", b.answer.place) ∷ [])
unfolding building_text
text-ended b n = rw (ne_eqb _ _ n)
