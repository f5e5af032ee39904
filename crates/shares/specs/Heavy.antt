-- Heavy and light segments. A task has period T, work C, path P and s segments; segment j has m j threads and length e j.
use Rattle.std.specs.Prelude.{Bool, ℕ, ◌*◌, ◌-◌, ltb}
use Rattle.plain.specs.Pick.{pick, one}
use Rattle.plain.specs.Sums.{sum_to}

-- "A segment is heavy when m_j × (2T − P) > C, otherwise light (T the period)."
unfoldable pub is_heavy : (T C P m : ℕ) → Bool
is_heavy T C P m = ltb C (m * (2 * T - P))

-- how many of the s segments are heavy
unfoldable pub heavies : (T C P s : ℕ) (m : ℕ → ℕ) → ℕ
heavies T C P s m = sum_to s (λ j. one (is_heavy T C P (m j)))

-- H: "the summed m_j × e_j of heavy ones"
unfoldable pub heavy_work : (T C P s : ℕ) (m e : ℕ → ℕ) → ℕ
heavy_work T C P s m e = sum_to s (λ j. pick (is_heavy T C P (m j)) (m j * e j) 0)

-- L: "the summed length of light segments"
unfoldable pub light_length : (T C P s : ℕ) (m e : ℕ → ℕ) → ℕ
light_length T C P s m e = sum_to s (λ j. pick (is_heavy T C P (m j)) 0 (e j))
