-- "s times (threads, length, deadline numerator)" after three words: what the writer of the segments leaves in lent words.
use Rattle.std.specs.Prelude.{◌≡◌, List, ℕ, ◌+◌, ◌*◌, ◌≤◌, ◌<◌, length}
use Rattle.plain.specs.At.{at}

-- w is w₀ with threads m and lengths e of the first s segments put in: the head, each third word and all past the segments are as before
pub record CutWords (m e : ℕ → ℕ) (s : ℕ) (w₀ w : List ℕ) : Type 0 where
  pub room : length w ≡ length w₀
  pub first : (j : ℕ) → j < s → at w (3 + 3 * j) ≡ m j
  pub second : (j : ℕ) → j < s → at w (4 + 3 * j) ≡ e j
  pub third : (j : ℕ) → at w (5 + 3 * j) ≡ at w₀ (5 + 3 * j)
  pub head : (k : ℕ) → k < 3 → at w k ≡ at w₀ k
  pub rest : (k : ℕ) → 3 + 3 * s ≤ k → at w k ≡ at w₀ k
