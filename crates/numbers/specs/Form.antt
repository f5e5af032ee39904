-- The forms of a number of at most `more` bytes after its first, as they stand at the front of a list of bytes.
use Rattle.std.specs.Prelude.{ℕ, suc, ◌+◌, ◌*◌, ◌%◌, ◌≤◌, ◌<◌, List, [], ◌∷◌}

-- "each with seven bits of value, lowest group first. The top bit is set in every byte but the last.": n bytes that are worth v
-- "Only the shortest form is allowed: a last byte of 0 is allowed only as the sole byte": what follows a byte is worth more than 0
pub data Form : List ℕ → ℕ → ℕ → Type 0 where
  sole : {b : ℕ} {s : List ℕ} → b < 128 → Form (b ∷ s) b 1
  first : {b : ℕ} {s : List ℕ} {v n : ℕ} → 128 ≤ b → 0 < v → Form s v n → Form (b ∷ s) (b % 128 + 128 * v) (suc n)

-- n bytes that are worth v, whether or not fewer would do: the shortest form's rule left out
pub data AnyForm : List ℕ → ℕ → ℕ → Type 0 where
  sole : {b : ℕ} {s : List ℕ} → b < 128 → AnyForm (b ∷ s) b 1
  first : {b : ℕ} {s : List ℕ} {v n : ℕ} → 128 ≤ b → AnyForm s v n → AnyForm (b ∷ s) (b % 128 + 128 * v) (suc n)

-- k bytes with their top bit set, and then `rest`
pub data Led : ℕ → List ℕ → List ℕ → Type 0 where
  none : {rest : List ℕ} → Led 0 rest rest
  byte : {b k : ℕ} {s rest : List ℕ} → 128 ≤ b → Led k s rest → Led (suc k) (b ∷ s) rest

-- "A number is 1 to 4 bytes": in shortest form
abbrev pub Whole : (more : ℕ) → List ℕ → (v n : ℕ) → Type 0
Whole more s v n = Form s v n × (n ≤ suc more)

-- "the input ends before a needed byte"
abbrev pub Ends : (more : ℕ) → List ℕ → Type 0
Ends more s = (k : ℕ) × (k ≤ more) × Led k s []

-- "a fourth byte has its top bit set"
abbrev pub Long : (more : ℕ) → List ℕ → Type 0
Long more s = (rest : List ℕ) × Led (suc more) s rest

-- "the form isn't the shortest": a last byte of 0 that is not the sole byte
abbrev pub Padded : (more : ℕ) → List ℕ → Type 0
Padded more s = (k : ℕ) × (rest : List ℕ) × (0 < k) × (k ≤ more) × Led k s (0 ∷ rest)
