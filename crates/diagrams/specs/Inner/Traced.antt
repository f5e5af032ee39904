-- What the run of a timing diagram leaves in the lent lists.
use Rattle.std.specs.Prelude.{◌≡◌, false, List, ℕ, suc, ◌≤◌, ◌<◌, ltb}
use Rattle.plain.specs.At.{at}
use Rattle.ways.specs.Inner.Tidy.{Tidy}
use Rattle.ways.specs.Inner.Weights.{weight_max}
use Rattle.ways.specs.Closure.{loops}
use Rattle.ways.specs.Ways.{begins, ends}
use Rattle.segments.specs.Cut.{cut, latest, segments}
use Rattle.segments.specs.Running.{threads}

-- what the run asks: at most 64 nodes, parent sets and executions in range
pub record SweepIn (P X : List ℕ) (n : ℕ) : Type 0 where
  pub fits : n ≤ 64
  pub tidy : Tidy P n
  pub light : (v : ℕ) → at X v ≤ weight_max

-- s segments up to the path, with the threads m: each node v finishes at e v, and segment j ends where node en j finishes
pub record CutUp (n : ℕ) (S F : ℕ → ℕ) (s path : ℕ) (m en e : List ℕ) : Type 0 where
  pub count : s ≡ segments n F
  pub threads-are : (j : ℕ) → j < s → at m j ≡ threads n S F j
  pub closed : (j : ℕ) → j < s → (at en j < n) × (at e (at en j) ≡ cut n F (suc j))
  pub finish : (v : ℕ) → v < n → at e v ≡ F v
  pub path-is : path ≡ latest n F

-- each node starts at the cut with number f v and finishes at that with number z v
pub record Spanned (n : ℕ) (S F : ℕ → ℕ) (f z : List ℕ) : Type 0 where
  pub first : (v : ℕ) → v < n → (at f v ≤ segments n F) × (cut n F (at f v) ≡ S v)
  pub last : (v : ℕ) → v < n → (at z v ≤ segments n F) × (cut n F (at z v) ≡ F v)

-- fewer than n nodes are done exactly where the table has a loop; where it has none, the lists hold its segments and its nodes' cuts
pub record Traced (P X : List ℕ) (n done s path : ℕ) (m en e f z : List ℕ) : Type 0 where
  pub told : loops P n ≡ ltb done n
  pub cut_up : loops P n ≡ false → CutUp n (at (begins P X n)) (at (ends P X n)) s path m en e
  pub spanned : loops P n ≡ false → Spanned n (at (begins P X n)) (at (ends P X n)) f z
