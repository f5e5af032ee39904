-- A list of segments as the lists of what they hold.
use Rattle.std.specs.Prelude.{List, ℕ, map}
use Rattle.segments.specs.declared.Segment.{Segment}

-- how many threads run in each
abbrev pub threads_of : List Segment → List ℕ
threads_of = map (λ s. s.threads)

-- the node that ends each
abbrev pub enders_of : List Segment → List ℕ
enders_of = map (λ s. s.ender)
