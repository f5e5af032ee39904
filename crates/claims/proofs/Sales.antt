-- The promises of the sales sheet. A yes for m cores puts M + r at or below a million, because S is at least M; so each further core has room for them,
-- and where a density is above a million there is no yes. A withdrawal leaves a board within the one before it, and two days that leave the same tasks
-- leave boards that are within each other.
use mathlib.Core.Path.{◌≡◌, refl, ap, ◌∙◌}
use mathlib.Core.Bool.{Bool}
use mathlib.Core.List.{List}
use Prim.Native.Nat.{ℕ, ◌+◌, ◌-◌, ◌*◌, ◌≤◌, ◌<◌, zero-le}
use native.Mathlib.Nat.{le_trans, mul-add, add-mul, mul-le-mul_left, le_of_mul-le-mul_left}
use native.Mathlib.Omega.{arith}
use Rattle.plain.proofs.Sums.{le-max_to}
use Rattle.tables.specs.Limits.{million}
use Rattle.plans.specs.Shares.{density}
use Rattle.boards.specs.declared.Row.{Row}
use Rattle.boards.specs.Row.{rows_max, row_at}
use Rattle.boards.specs.Sound.{Sound}
use Rattle.boards.specs.Verdict.{sum_of, largest_of, verdict}
use Rattle.boards.specs.Change.{asked_by}
use Rattle.boards.proofs.Sound.{test-sound, largest-le-sum}
use Rattle.overheads.specs.ToEnd.{overhead_of, verdict_to_end}
use Rattle.admissions.specs.Admission.{row_of}
use Rattle.claims.specs.Calls.{empty_day, board_after}
use Rattle.claims.specs.Sales.{yes, no, OfVerdict, OfSales}
use Rattle.claims.proofs.Ask.{Tells, same-says, yes-means, means-yes, means-no, fits_told, fits-to-end-told}
use Rattle.claims.proofs.Pairing.{paired-empty, paired_calls}
use Rattle.claims.proofs.Within.{Within, sum-within, largest-within, overhead-within, withdrawn-within, day-within}
use Rattle.claims.proofs.Day.{no-sum, no-largest, no-overhead}

-- "S + (m − 1) × M + m × r"
abbrev Left : (s l r m : ℕ) → ℕ
Left s l r m = s + (m - 1) * l + m * r

-- that "≤ m × 1,000,000", on a board with the overhead `r`; 0 is that of steps that may be interrupted
abbrev FitsWith : (List Row → ℕ) → List Row → ℕ → Type 0
FitsWith r rows m = Left (sum_of rows) (largest_of rows) (r rows) m ≤ m * million

-- where it fits, M + r is at most a million, since S is at least M
peak : (s l r m : ℕ) → l ≤ s → 1 ≤ m → Left s l r m ≤ m * million → l + r ≤ million
peak s l r m h low fits =
    let all : m * l ≡ (m - 1) * l + 1 * l = ap (λ (x : ℕ). x * l) (omega arith) ∙ add-mul (m - 1) 1 l in
    le_of_mul-le-mul_left {k = m} (rw (mul-add m l r) (omega arith)) low

-- and each further core has room for both
further : (s l r m n : ℕ) → l ≤ s → 1 ≤ m → m ≤ n → Left s l r m ≤ m * million → Left s l r n ≤ n * million
further s l r m n h low more fits =
    let d = n - m in
    let densities : (n - 1) * l ≡ (m - 1) * l + d * l = ap (λ (x : ℕ). x * l) (omega arith) ∙ add-mul (m - 1) d l in
    let overheads : n * r ≡ m * r + d * r = ap (λ (x : ℕ). x * r) (omega arith) ∙ add-mul m d r in
    let room = mul-le-mul_left d (peak s l r m h low fits) in
    omega (arith, rw (mul-add d l r) at room)

-- smaller figures have a smaller left side
smaller-left : {s l r t k q : ℕ} (m : ℕ) → s ≤ t → l ≤ k → r ≤ q → Left s l r m ≤ Left t k q m
smaller-left m a b c = omega (arith, mul-le-mul_left (m - 1) b, mul-le-mul_left m c)

-- a verdict that tells whether it fits, with an overhead that is no greater on a board within another and 0 on the empty one
module _ (says : List Row → ℕ → Bool) (r : List Row → ℕ)
    (tells : (rows : List Row) (m : ℕ) → Tells (says rows m) (FitsWith r rows m))
    (falls : (part all : List Row) → Within part all → r part ≤ r all)
    (none : r empty_day.rows ≡ 0)
  where
    -- a yes is that it fits, on a sound board and for a core count in its range, and a no that it doesn't
    yes-fits : (rows : List Row) (m : ℕ) → asked_by says rows m ≡ yes → Sound rows × (1 ≤ m) × (m ≤ 64) × FitsWith r rows m
    yes-fits rows m = yes-means says rows m (FitsWith r rows m) (tells rows m)

    fits-yes : (rows : List Row) (m : ℕ) → Sound rows → 1 ≤ m → m ≤ 64 → FitsWith r rows m → asked_by says rows m ≡ yes
    fits-yes rows m = means-yes says rows m (FitsWith r rows m) (tells rows m)

    unfit-no : (rows : List Row) (m : ℕ) → Sound rows → 1 ≤ m → m ≤ 64 → (FitsWith r rows m → ⊥) → asked_by says rows m ≡ no
    unfit-no rows m = means-no says rows m (FitsWith r rows m) (tells rows m)

    -- what fits on a board fits on one within it
    fits-within : {part all : List Row} → Within part all → (m : ℕ) → FitsWith r all m → FitsWith r part m
    fits-within {part} {all} w m = le_trans (smaller-left m (sum-within w) (largest-within w) (falls part all w))

    -- boards within each other are answered alike
    same-board : {part all : List Row} → Within part all → Within all part → (m : ℕ) → asked_by says part m ≡ asked_by says all m
    unfolding asked_by
    same-board {part} {all} w v m = rw (test-sound w.sound, test-sound v.sound, same-says (says part m) (says all m) (tells part m) (tells all m) (fits-within v m) (fits-within w m))

    -- where it fits, no row has a density above one
    none-denser : {rows : List Row} → Sound rows → (m : ℕ) → 1 ≤ m → FitsWith r rows m → (k : ℕ) → k < rows_max → (row_at rows k).largest ≤ million
    unfolding largest_of
    none-denser {rows} s m low fits k h =
        let most = le-max_to rows_max (λ j. (row_at rows j).largest) k h in
        let room = peak (sum_of rows) (largest_of rows) (r rows) m (largest-le-sum s) low fits in
        omega arith

    -- the promises
    of-verdict : OfVerdict (asked_by says)
    of-verdict = record {
      withdrawal = λ rows m id y z.
          let (_, low, high, fits) = yes-fits rows m y in
          let w = withdrawn-within rows id z in
          fits-yes _ m w.sound low high (fits-within w m fits);
      larger-count = λ rows m n y more high.
          let (s, low, most, fits) = yes-fits rows m y in
          fits-yes rows n s (omega arith) (omega arith) (further (sum_of rows) (largest_of rows) (r rows) m n (largest-le-sum s) low (omega arith) fits);
      same-tasks = λ calls others same.
          let p = paired_calls calls paired-empty in
          let q = paired_calls others paired-empty in
          same-board (day-within p q (λ t. (same t).0)) (day-within q p (λ t. (same t).1));
      too-dense = λ rows m s (k, h, dense) low high. unfit-no rows m s low high (λ fits.
          let most = none-denser s m low fits k h in
          omega arith);
      dense-step = λ calls t v m stands h dense low high.
          let p = paired_calls calls paired-empty in
          let (k, l, here) = p.row t stands in
          let own = le-max_to t.count (density t) v h in
          unfit-no (board_after calls) m p.sound low high (λ fits.
          let most : (row_of t).largest ≤ million = rw here at (none-denser p.sound m low fits k l) in
          omega arith);
      empty-board = λ m low high. fits-yes empty_day.rows m paired-empty.sound low high (rw (no-sum, no-largest, none) (omega arith));
    }

-- the two verdicts
fits-no-overhead : (rows : List Row) (m : ℕ) → Tells (verdict rows m) (FitsWith (λ _. 0) rows m)
fits-no-overhead rows m = record {
  holds = λ e. (let f = (fits_told rows m).holds e in omega arith);
  fails = λ e f. (fits_told rows m).fails e (omega arith);
}

pub of-sales : OfSales
of-sales = record {
  preemptive = of-verdict verdict (λ _. 0) fits-no-overhead (λ part all w. zero-le) refl;
  to_end = of-verdict verdict_to_end overhead_of fits-to-end-told (λ part all w. overhead-within w) no-overhead;
}
