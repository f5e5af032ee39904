-- Everything fits in 64 bits: all is bounded by the limits of the table. Q is at most twice the work, a rate at most twice the period, and
-- a numerator is one term of a sum that is T × Q.
use mathlib.Core.List.{List}
use Prim.Native.Nat.{ℕ, ◌+◌, ◌*◌, ◌-◌, ◌^◌, ◌≤◌, ◌<◌}
use native.Mathlib.Nat.{mul-le-mul}
use native.Mathlib.Omega.{arith}
use Rattle.plain.specs.Sums.{sum_to}
use Rattle.plain.proofs.Sums.{sum-under}
use Rattle.tables.specs.Limits.{period_max, count_max, work_max, over_max, million}
use Rattle.shares.specs.declared.Deal.{Deal}
use Rattle.shares.specs.Deal.{deal}
use Rattle.shares.specs.Words.{threads_at, length_at}
use Rattle.shares.specs.Inner.Segmented.{Segmented}
use Rattle.shares.specs.Inner.Asked.{rate_max, numerator_max, DensityIn, HeavyIn, DealIn, FillIn}
use Rattle.shares.proofs.Deals.{dealt_to, Dealt, heavy-all, light-all, both, dealt}
use Rattle.shares.proofs.Fair.{whole, over-le, heavy-whole}

-- the amount that a density divides, the test of a segment, and what a segment gets at a rate r
pub amount-fits : {execution over numerator : ℕ} → DensityIn execution over numerator → execution * over * million + numerator < 2 ^ 64
amount-fits p = omega (arith, mul-le-mul p.execution-high p.over-high)

pub test_fits : {T P m : ℕ} → HeavyIn T P m → m * (2 * T - P) < 2 ^ 64
test_fits {T} {P} h = let r : 2 * T - P ≤ rate_max = omega arith in omega (arith, mul-le-mul h.threads r)

pub work-fits : (r m : ℕ) → r ≤ rate_max → m ≤ count_max → r * m < 2 ^ 64
work-fits r m p q = omega (arith, mul-le-mul p q)

pub heavy-fits : (r m e : ℕ) → r ≤ rate_max → m ≤ count_max → e ≤ period_max → r * m * e < 2 ^ 64
heavy-fits r m e p q l = omega (arith, mul-le-mul (mul-le-mul p q) l)

pub light-fits : (r e : ℕ) → r ≤ rate_max → e ≤ period_max → e * r < 2 ^ 64
light-fits r e p l = omega (arith, mul-le-mul l p)

module _ {T C P s : ℕ} {m e : ℕ → ℕ} (cut : Segmented T C P s m e) (period : T ≤ period_max) (work : C ≤ work_max) where
  -- Q, the two rates and the whole
  pub over-high : (deal T C P s m e).over ≤ over_max
  over-high = omega (arith, over-le cut)

  pub heavy-high : (deal T C P s m e).heavy ≤ rate_max
  heavy-high = go (dealt cut)
    where
      go : {d : Deal} → Dealt T C P s m e d → d.heavy ≤ rate_max
      go (heavy-all a) = omega arith
      go (light-all a) = omega arith
      go (both h) = omega arith

  pub light-high : (deal T C P s m e).light ≤ rate_max
  light-high = go (dealt cut)
    where
      go : {d : Deal} → Dealt T C P s m e d → d.light ≤ rate_max
      go (heavy-all a) = omega arith
      go (light-all a) = omega arith
      go (both h) = omega (arith, heavy-whole cut)

  pub whole-high : sum_to s (dealt_to T C P s m e) ≤ numerator_max
  whole-high = rw (whole cut) (mul-le-mul period over-high)

  -- a length
  pub length_high : (j : ℕ) → j < s → e j ≤ period_max
  length_high j l = let u = sum-under e j s l in omega arith

-- from the cut in the words to the writer of numerators
pub fill-in : {w : List ℕ} {s T C P : ℕ} → DealIn w s T C P → FillIn w s (deal T C P s (threads_at w) (length_at w)) T P
fill-in given =
    record {
      room = given.room;
      each =
          λ j l. record {
            test = record { period = given.period; path = given.segmented.within; threads = given.threads j l };
            heavy = heavy-high given.segmented given.period given.work;
            light = light-high given.segmented given.period given.work;
            long = length_high given.segmented given.period given.work j l;
          };
    }
