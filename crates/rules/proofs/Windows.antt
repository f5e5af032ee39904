-- A node's share: the segments are met in their order, each adds what it is given where the node runs through it, and no more than that.
use mathlib.Core.Path.{◌≡◌, sym}
use mathlib.Core.Bool.{Bool, ◌&&◌}
use mathlib.Core.List.{List}
use Prim.Native.Nat.{ℕ, suc, ◌+◌, ◌*◌, ◌≤◌, ◌<◌, zero-le}
use native.Mathlib.Omega.{arith}
use lib.Dec.{leb}
use Rattle.plain.specs.At.{at}
use Rattle.plain.specs.Pick.{one}
use Rattle.plain.specs.Sums.{sum_to}
use Rattle.plain.proofs.Flags.{times-flag}
use Rattle.plain.proofs.Sums.{sum_to-none, sum_to-more, sum_mono, sum-under}
use Rattle.segments.specs.Running.{runs}
use Rattle.segments.proofs.Running.{runs-flag}
use Rattle.shares.specs.Words.{numerator_at, offset_at, deadline_at}
use Rattle.rules.specs.Inner.Own.{begins_at, windowed}

-- what segment j adds to node v's share
abbrev pub added : (own : List ℕ) (given : ℕ → ℕ) (v j : ℕ) → ℕ
added own given v j = runs (offset_at own v) (offset_at own v + deadline_at own v) (begins_at own j) (begins_at own (suc j)) * given j

added-low : (own : List ℕ) (given : ℕ → ℕ) (v j : ℕ) → added own given v j ≤ given j
added-low own given v j = times-flag (given j) (runs-flag (offset_at own v) (offset_at own v + deadline_at own v) (begins_at own j) (begins_at own (suc j)))

-- a share is at most all that is given
pub share-low : (own : List ℕ) (given : ℕ → ℕ) (v : ℕ) → windowed own given v ≤ sum_to (at own 1) given
unfolding windowed
share-low own given v = sum_mono (at own 1) (added own given v) given (λ j l. added-low own given v j)

-- j segments are met: the time is where the next begins, the share is what those met add
pub record Met (own w : List ℕ) (v j time share : ℕ) : Type 0 where
  pub within : j ≤ at own 1
  pub time-is : time ≡ begins_at own j
  pub share-is : share ≡ sum_to j (added own (numerator_at w) v)

module _ {own w : List ℕ} {v : ℕ} where
  pub met-none : Met own w v 0 0 0
  met-none = record { within = zero-le; time-is = sym (sum_to-none _); share-is = sym (sum_to-none _) }

  module _ {j time share : ℕ} (met : Met own w v j time share) where
    pub met-more : (low : j < at own 1) (through : Bool) (sum : ℕ) → through ≡ (leb (offset_at own v) time && leb (time + numerator_at own j) (offset_at own v + deadline_at own v))
        → sum ≡ share + one through * numerator_at w j → Met own w v (j + 1) (time + numerator_at own j) sum
    unfolding runs sum_to
    met-more low through sum t e =
        let times = sum_to-more j (numerator_at own) in
        let shares = sum_to-more j (added own (numerator_at w) v) in
        let b = met.time-is in
        let r : through ≡ (leb (offset_at own v) (begins_at own j) && leb (begins_at own (suc j)) (offset_at own v + deadline_at own v)) = rw b at t in
        record { within = omega arith; time-is = omega arith; share-is = (let i = met.share-is in rw (e, i, shares, r)) }

    -- what is added fits
    pub time-fits : j < at own 1 → time + numerator_at own j ≤ sum_to (at own 1) (numerator_at own)
    time-fits l = rw met.time-is (sum-under (numerator_at own) j (at own 1) l)

    pub share-fits : j < at own 1 → share + numerator_at w j ≤ sum_to (at own 1) (numerator_at w)
    share-fits l =
        let low = sum_mono j (added own (numerator_at w) v) (numerator_at w) (λ i k. added-low own (numerator_at w) v i) in
        omega (arith, sum-under (numerator_at w) j (at own 1) l)

    -- all are met
    pub met_all : at own 1 ≤ j → share ≡ windowed own (numerator_at w) v
    unfolding windowed
    met_all l = let e : j ≡ at own 1 = omega arith in rw e at met.share-is
