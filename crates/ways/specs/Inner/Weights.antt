-- What the code asks of weights.
use Rattle.std.specs.Prelude.{ℕ, ◌^◌}

-- the greatest weight that the code takes: 64 of them fit a word
abbrev pub weight_max : ℕ
weight_max = 2 ^ 57
