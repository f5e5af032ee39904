-- What the writer of numerators leaves in the words.
use Rattle.std.specs.Prelude.{◌≡◌, List, ℕ, ◌+◌, ◌*◌, ◌<◌, length}
use Rattle.plain.specs.At.{at}
use Rattle.shares.specs.declared.Deal.{Deal}
use Rattle.shares.specs.Deal.{numerator}
use Rattle.shares.specs.Words.{threads_at, length_at, numerator_at}

-- the words after the numerators are written: the third of each of s triples, all others as they were
pub record Numbered (d : Deal) (T C P s : ℕ) (w₀ w : List ℕ) : Type 0 where
  pub size : length w ≡ length w₀
  pub written : (j : ℕ) → j < s → numerator_at w j ≡ numerator d T C P (threads_at w₀ j) (length_at w₀ j)
  pub kept : (k : ℕ) → ((j : ℕ) → j < s → k ≡ 5 + 3 * j → ⊥) → at w k ≡ at w₀ k
