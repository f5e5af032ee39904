-- What the functions ask of their callers, so that every sum and product fits.
use Rattle.std.specs.Prelude.{List, ℕ, ◌+◌, ◌*◌, ◌^◌, ◌≤◌, ◌<◌, length}
use Rattle.plain.specs.At.{at}
use Rattle.plain.specs.Sums.{sum_to}
use Rattle.tables.specs.Limits.{period_max, count_max, run_max, work_max, over_max}
use Rattle.shares.specs.declared.Deal.{Deal}
use Rattle.shares.specs.Words.{threads_at, length_at, numerator_at}
use Rattle.shares.specs.Inner.Spans.{offset_by, span_by}
use Rattle.shares.specs.Inner.Segmented.{Segmented}

-- the greatest rate of a deal: 2T − L
abbrev pub rate_max : ℕ
rate_max = 2 * period_max

-- the greatest numerator: the whole period over the greatest Q
abbrev pub numerator_max : ℕ
numerator_max = period_max * over_max

-- a node's density
pub record DensityIn (execution over numerator : ℕ) : Type 0 where
  pub execution-high : execution ≤ run_max
  pub over-high : over ≤ over_max
  pub numerator-high : numerator ≤ numerator_max

-- whether a segment is heavy
pub record HeavyIn (T P m : ℕ) : Type 0 where
  pub period : T ≤ period_max
  pub path : P ≤ T
  pub threads : m ≤ count_max

-- a segment's numerator
pub record NumeratorIn (d : Deal) (T P m e : ℕ) : Type 0 where
  pub test : HeavyIn T P m
  pub heavy : d.heavy ≤ rate_max
  pub light : d.light ≤ rate_max
  pub long : e ≤ period_max

-- a task's deal, from the threads and lengths in the words
pub record DealIn (w : List ℕ) (s T C P : ℕ) : Type 0 where
  pub room : 3 + 3 * s ≤ length w
  pub segmented : Segmented T C P s (threads_at w) (length_at w)
  pub period : T ≤ period_max
  pub work : C ≤ work_max
  pub threads : (j : ℕ) → j < s → threads_at w j ≤ count_max

-- the numerators of s segments, each from its threads and length
pub record FillIn (w : List ℕ) (s : ℕ) (d : Deal) (T P : ℕ) : Type 0 where
  pub room : 3 + 3 * s ≤ length w
  pub each : (j : ℕ) → j < s → NumeratorIn d T P (threads_at w j) (length_at w j)

-- the segments in the words: what they are given in all fits
pub record SumsIn (w : List ℕ) (s : ℕ) : Type 0 where
  pub room : 3 + 3 * s ≤ length w
  pub few : s ≤ count_max
  pub numerators : sum_to s (numerator_at w) < 2 ^ 64

-- the node part of a plan: no node ends, in stretched time, before its offset
pub record NodesIn (sums first last executions : List ℕ) (n over words : ℕ) : Type 0 where
  pub count : n ≤ count_max
  pub room : 3 * n ≤ words
  pub cuts : (v : ℕ) → v < n → (at first v ≤ count_max) × (at last v ≤ count_max)
  pub runs : (v : ℕ) → v < n → offset_by sums first v ≤ at sums (at last v)
  pub each : (v : ℕ) → v < n → DensityIn (at executions v) over (span_by sums first last v)
