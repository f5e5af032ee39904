-- What counting the segments gives the deal.
use Rattle.std.specs.Prelude.{ℕ}
use Rattle.shares.specs.declared.Kinds.{Kinds}
use Rattle.shares.specs.Heavy.{heavies, heavy_work, light_length}

-- the number of heavy segments with H and L
abbrev pub kinds : (T C P s : ℕ) (m e : ℕ → ℕ) → Kinds
kinds T C P s m e = record { heavies = heavies T C P s m; work = heavy_work T C P s m e; length = light_length T C P s m e }
