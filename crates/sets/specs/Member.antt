-- "a set being one 64-bit word": which numbers are its members.
use Rattle.std.specs.Prelude.{◌≡◌, Bool, ℕ, zero, suc, ◌/◌, ◌%◌, eqb}

-- the binary digit of the word s at place k, 0 or 1
unfoldable pub bit : ℕ → ℕ → ℕ
bit zero s = s % 2
bit (suc k) s = bit k (s / 2)

-- k is a member of the set s where its digit is 1
abbrev pub Member : ℕ → ℕ → Type 0
Member k s = bit k s ≡ 1

-- the same as a test
abbrev pub is_member : ℕ → ℕ → Bool
is_member k s = eqb (bit k s) 1
