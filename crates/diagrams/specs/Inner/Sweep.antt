-- Where the run of a timing diagram stands. It is at cut number j, of time t; c has the times of the cuts so far. The table has parent sets P
-- and executions X of n nodes. The lists: l the queue, e finishes, f and z the numbers of first and last cuts, w who waits for whom,
-- m and en the segments' threads and the nodes that end them.
use Rattle.std.specs.Prelude.{◌≡◌, ◌⊎◌, List, ℕ, suc, ◌+◌, ◌*◌, ◌≤◌, ◌<◌, length}
use Rattle.plain.specs.At.{at}
use Rattle.sets.specs.Member.{bit, Member}
use Rattle.sets.specs.Size.{size}
use Rattle.sets.specs.Greatest.{greatest}
use Rattle.queues.specs.Inner.Putting.{Rising}
use Rattle.ways.specs.Inner.Tidy.{Tidy}
use Rattle.ways.specs.Inner.Weights.{weight_max}
use Rattle.ways.specs.Inner.Order.{Listed}
use Rattle.ways.specs.Inner.Settling.{Settling}
use Rattle.segments.specs.Running.{running_in}

-- each member of a is one of s
abbrev pub Subset : ℕ → ℕ → Type 0
Subset a s = (k : ℕ) → Member k a → Member k s

-- the queue: the first `tail` entries of l are an order of the started nodes, and the first `head` of them are the nodes that are done
pub record Queue (P : List ℕ) (n : ℕ) (l : List ℕ) (head done tail started : ℕ) : Type 0 where
  pub settled : Settling P n tail l started
  pub within : head ≤ tail
  pub held : (i : ℕ) → i < head → Member (at l i) done
  pub listed : (k : ℕ) → Member k done → Listed l head k

-- v has started, at the cut with number f v: all its parents are done, its start is their latest finish, and e v is its finish
pub record Begun (P X : List ℕ) (n : ℕ) (c : ℕ → ℕ) (done j : ℕ) (e f : List ℕ) (v : ℕ) : Type 0 where
  pub number : at f v ≤ j
  pub start : c (at f v) ≡ greatest n (at P v) (at e)
  pub end : at e v ≡ c (at f v) + at X v
  pub above : Subset (at P v) done

-- the queue ascends by the finishes; who is done has finished by t, and no other started node has finished before t
pub record Times (P X : List ℕ) (n : ℕ) (c : ℕ → ℕ) (done j t : ℕ) (l e f : List ℕ) (tail started : ℕ) : Type 0 where
  pub ends : length e ≡ 64
  pub firsts : length f ≡ 64
  pub rising : Rising (at e) tail l
  pub begun : (v : ℕ) → Member v started → Begun P X n c done j e f v
  pub behind : (v : ℕ) → Member v done → at e v ≤ t
  pub ahead : (v : ℕ) → Member v started → bit v done ≡ 0 → t ≤ at e v
  pub late : t ≤ tail * weight_max
  pub small : (v : ℕ) → Member v started → at e v ≤ tail * weight_max

-- v waits for q: it is in q's set, and q is not done
pub record Waits (done : ℕ) (w : List ℕ) (v q : ℕ) : Type 0 where
  pub undone : bit q done ≡ 0
  pub among : Member v (at w q)

-- who has not started is left to be looked at, because the time is 0 or a parent has finished just now, or waits for one parent that is not done
pub record Woken (P : List ℕ) (n done t : ℕ) (e w : List ℕ) (started left : ℕ) : Type 0 where
  pub room : length w ≡ 64
  pub due : (v : ℕ) → Member v left → (v < n) × (bit v started ≡ 0)
  pub apart : (v q : ℕ) → Member v left → Waits done w v q → ⊥
  pub waits : (v q : ℕ) → Waits done w v q → (Member q (at P v)) × (bit v started ≡ 0)
  pub once : (v p q : ℕ) → Waits done w v p → Waits done w v q → p ≡ q
  pub all : (v : ℕ) → v < n → bit v started ≡ 0 → (Member v left) ⊎ ((q : ℕ) × Waits done w v q)
  pub fresh : (v : ℕ) → Member v left → (t ≡ 0) ⊎ ((p : ℕ) × Member p (at P v) × Member p started × (at e p ≡ t))

-- starts S and finishes F that the run can still come to: those of the started nodes are fixed, the others start at t or later
pub record Completes (n : ℕ) (c : ℕ → ℕ) (t : ℕ) (e f : List ℕ) (started : ℕ) (S F : ℕ → ℕ) : Type 0 where
  pub fixed : (v : ℕ) → Member v started → (S v ≡ c (at f v)) × (F v ≡ at e v)
  pub later : (v : ℕ) → v < n → bit v started ≡ 0 → t ≤ S v

-- the cuts up to j ascend from 0, and each segment ends at the finish of its node in en; m has its threads, whatever the run comes to; z has the
-- last cut of who is done
pub record Cuts (n : ℕ) (c : ℕ → ℕ) (m en z : List ℕ) (done j t : ℕ) (e f : List ℕ) (started : ℕ) : Type 0 where
  pub counts : length m ≡ 64
  pub enders : length en ≡ 64
  pub lasts : length z ≡ 64
  pub few : j ≤ 64
  pub from : c 0 ≡ 0
  pub present : c j ≡ t
  pub up : (i : ℕ) → i < j → c i < c (suc i)
  pub closed : (i : ℕ) → i < j → (Member (at en i) started) × (c (suc i) ≡ at e (at en i))
  pub ended : (v : ℕ) → Member v done → (at z v ≤ j) × (c (at z v) ≡ at e v)
  pub threads : (S F : ℕ → ℕ) → Completes n c t e f started S F → (i : ℕ) → i < j → at m i ≡ size (running_in n S F (c i) (c (suc i)))

-- the whole state; the nodes of `left` are still to be looked at
pub record Sweep (P X : List ℕ) (n : ℕ) (c : ℕ → ℕ) (m en z : List ℕ) (head done j t : ℕ) (l e f w : List ℕ) (tail started left : ℕ) : Type 0 where
  pub fits : n ≤ 64
  pub tidy : Tidy P n
  pub light : (v : ℕ) → at X v ≤ weight_max
  pub queue : Queue P n l head done tail started
  pub times : Times P X n c done j t l e f tail started
  pub woken : Woken P n done t e w started left
  pub cuts : Cuts n c m en z done j t e f started

-- between two cuts: each segment so far has a finish of its own
pub record Between (P X : List ℕ) (n : ℕ) (m en z : List ℕ) (head done j t : ℕ) (l e f w : List ℕ) (tail started left : ℕ) : Type 0 where
  pub cut_at : ℕ → ℕ
  pub few : j ≤ head
  pub state : Sweep P X n cut_at m en z head done j t l e f w tail started left
