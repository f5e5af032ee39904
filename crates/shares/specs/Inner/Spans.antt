-- A node in stretched time: sums has D at each cut, first and last have the numbers of the cuts that each node starts and finishes at.
use Rattle.std.specs.Prelude.{List, ℕ, ◌-◌}
use Rattle.plain.specs.At.{at}

-- D at node v's first cut: its offset
abbrev pub offset_by : (sums first : List ℕ) → ℕ → ℕ
offset_by sums first v = at sums (at first v)

-- D at its last cut less D at its first: its deadline
abbrev pub span_by : (sums first last : List ℕ) → ℕ → ℕ
span_by sums first last v = at sums (at last v) - offset_by sums first v
