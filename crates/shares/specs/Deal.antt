-- How the period is dealt out to the segments. "Deadlines are numerators over one whole number Q for the task"; "No fraction is reduced."
use Rattle.std.specs.Prelude.{ℕ, ◌*◌, ◌-◌, eqb}
use Rattle.plain.specs.Pick.{pick}
use Rattle.shares.specs.declared.Deal.{Deal}
use Rattle.shares.specs.Heavy.{is_heavy, heavies, heavy_work, light_length}

-- "all heavy: Q = C, numerator T × m_j × e_j"
abbrev pub all_heavy : (T C : ℕ) → Deal
all_heavy T C = record { over = C; heavy = T; light = 0 }

-- "all light: Q = P, numerator T × e_j"
abbrev pub all_light : (T P : ℕ) → Deal
all_light T P = record { over = P; heavy = 0; light = T }

-- "both kinds: .. Q = 2H; heavy (2T − L) × m_j × e_j; light e_j × H"
abbrev pub both_kinds : (T H L : ℕ) → Deal
both_kinds T H L = record { over = 2 * H; heavy = 2 * T - L; light = H }

-- Q, what a heavy segment gets per unit of work, and what a light one gets per unit of length
unfoldable pub deal : (T C P s : ℕ) (m e : ℕ → ℕ) → Deal
deal T C P s m e =
    pick (eqb (heavies T C P s m) s) (all_heavy T C)
    (pick (eqb (heavies T C P s m) 0) (all_light T P)
    (both_kinds T (heavy_work T C P s m e) (light_length T C P s m e)))

-- the deadline numerator of a segment with m threads and length e
unfoldable pub numerator : (d : Deal) (T C P m e : ℕ) → ℕ
numerator d T C P m e = pick (is_heavy T C P m) (d.heavy * m * e) (e * d.light)
