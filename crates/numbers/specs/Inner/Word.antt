-- Numbers that are words.
use Rattle.std.specs.Prelude.{ℕ}

-- a 64-bit word takes at most ten bytes
abbrev pub word_more : ℕ
word_more = 9
