-- Sets by a rule that says 0 or 1: a set is known by its digits, and its digits are what the rule says.
use mathlib.Core.Path.{◌≡◌, sym, ◌∙◌}
use mathlib.Core.Logic.{⊎_elim}
use Prim.Native.Nat.{ℕ, ◌^◌, ◌≤◌, ◌<◌}
use native.Mathlib.Nat.{lt_of_lt_of_le}
use lib.Pow.{pow_mono}
use Rattle.plain.specs.Sums.{sum_to}
use Rattle.plain.proofs.Lists.{lt-or-ge}
use Rattle.sets.specs.Size.{size}
use Rattle.sets.specs.Rule.{set_of}
use Rattle.sets.proofs.Bits.{same_bits}
use Rattle.sets.proofs.Sizes.{ones-size}
use Rattle.sets.proofs.Rule.{bit_past, bit-set, set-lt, ones-set, Collected}

module _ (f : ℕ → ℕ) (flag : (v : ℕ) → f v ≤ 1) (n : ℕ) where
  -- a word that a loop has collected by the rule is its set
  pub collected-set : {s : ℕ} → Collected f n s → s ≡ set_of n f
  collected-set {s} c = same_bits s (set_of n f) (λ v. ⊎_elim
      (λ (h : v < n). c.done v h ∙ sym (bit-set f flag n v h))
      (λ (h : n ≤ v). c.rest v h ∙ sym (bit_past f flag n v h))
      (lt-or-ge v n))

  -- it fits a word
  pub set_word : n ≤ 64 → set_of n f < 2 ^ 64
  set_word few = lt_of_lt_of_le (set-lt f flag n) (pow_mono few)

  -- its size is the sum of what the rule says
  pub size-set : n ≤ 64 → size (set_of n f) ≡ sum_to n f
  size-set few = sym (ones-size 64 (set_of n f) (set_word few)) ∙ ones-set f flag n
