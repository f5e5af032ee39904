-- The heavy segments: each law adds one segment at a time by its own test, as the sums do; a count that is s, or 0, settles every test.
use mathlib.Core.Path.{◌≡◌, refl, ◌∙◌}
use mathlib.Core.Logic.{⊎_elim}
use mathlib.Core.Bool.{Bool, true, false}
use Prim.Native.Nat.{ℕ, ◌+◌, ◌*◌, ◌-◌, ◌≤◌, ◌<◌}
use native.Mathlib.Nat.{mul-pos, le_refl, add-zero}
use native.Mathlib.Omega.{arith}
use borrow.Author.Tests.{ltb-true, ltb-false}
use Rattle.plain.specs.Pick.{pick, one}
use Rattle.plain.specs.Sums.{sum_to}
use Rattle.plain.proofs.Lists.{lt-or-ge}
use Rattle.plain.proofs.Sums.{sum_same, sum_mono, sum_less, sum_ones, sum-zero, sum-under, sum_to-more}
use Rattle.shares.specs.declared.Kinds.{Kinds}
use Rattle.shares.specs.Heavy.{is_heavy, heavies, heavy_work, light_length}
use Rattle.shares.specs.Inner.Kinds.{kinds}
use Rattle.shares.proofs.Sums.{part-under}

-- the test, both ways
pub heavy-test : (T C P m : ℕ) → is_heavy T C P m ≡ true → C < m * (2 * T - P)
unfolding is_heavy
heavy-test T C P m t = ltb-true _ _ t

pub light-test : (T C P m : ℕ) → is_heavy T C P m ≡ false → m * (2 * T - P) ≤ C
unfolding is_heavy
light-test T C P m t = ltb-false _ _ t

-- by a test's two outcomes, each with its equation
pub by-test : (b : Bool) {A : Type 0} → (b ≡ true → A) → (b ≡ false → A) → A
by-test true t f = t refl
by-test false t f = f refl

-- a pick against 0 is at most what it picks from
pub pick-le : (b : Bool) (x : ℕ) → pick b x 0 ≤ x
pick-le true x = le_refl x
pick-le false x = omega arith

pub pick-le' : (b : Bool) (x : ℕ) → pick b 0 x ≤ x
pick-le' true x = omega arith
pick-le' false x = le_refl x

pub one-le : (b : Bool) → one b ≤ 1
one-le true = omega arith
one-le false = omega arith

module _ (T C P s : ℕ) (m e : ℕ → ℕ) where
  -- no more than s are heavy; H is at most the whole work, L at most the whole path
  pub heavies-le : heavies T C P s m ≤ s
  unfolding heavies
  heavies-le = let a = sum_mono s (λ j. one (is_heavy T C P (m j))) (λ j. 1) (λ j h. one-le (is_heavy T C P (m j))) in let b = sum_ones s in omega arith

  pub heavy-le : heavy_work T C P s m e ≤ sum_to s (λ j. m j * e j)
  unfolding heavy_work
  heavy-le = sum_mono s _ _ (λ j h. pick-le (is_heavy T C P (m j)) (m j * e j))

  pub light-le : light_length T C P s m e ≤ sum_to s e
  unfolding light_length
  light-le = sum_mono s _ _ (λ j h. pick-le' (is_heavy T C P (m j)) (e j))

  -- what a loop has summed, with the next segment whole, is at most the whole
  pub heavy-under : (j : ℕ) → j < s → heavy_work T C P j m e + m j * e j ≤ sum_to s (λ j. m j * e j)
  unfolding heavy_work
  heavy-under j = part-under (λ j. m j * e j) _ (λ k. pick-le (is_heavy T C P (m k)) (m k * e k)) j s

  pub light-under : (j : ℕ) → j < s → light_length T C P j m e + e j ≤ sum_to s e
  unfolding light_length
  light-under j = part-under e _ (λ k. pick-le' (is_heavy T C P (m k)) (e k)) j s

  -- where the count is s each segment is heavy, where it is 0 each is light
  pub each-heavy : heavies T C P s m ≡ s → (j : ℕ) → j < s → is_heavy T C P (m j) ≡ true
  unfolding heavies
  each-heavy a j h = by-test (is_heavy T C P (m j)) (λ t. t) (λ t. absurd (less t))
    where
      less : is_heavy T C P (m j) ≡ false → ⊥
      less t =
          let z : one (is_heavy T C P (m j)) < 1 = rw t (omega arith) in
          let l = sum_less s (λ j. one (is_heavy T C P (m j))) (λ j. 1) (λ j h. one-le (is_heavy T C P (m j))) j h z in
          let b = sum_ones s in
          omega arith

  pub each_light : heavies T C P s m ≡ 0 → (j : ℕ) → j < s → is_heavy T C P (m j) ≡ false
  unfolding heavies
  each_light a j h = by-test (is_heavy T C P (m j)) (λ t. absurd (more t)) (λ t. t)
    where
      more : is_heavy T C P (m j) ≡ true → ⊥
      more t =
          let z : one (is_heavy T C P (m j)) ≡ 1 = rw t in
          let u = sum-under (λ j. one (is_heavy T C P (m j))) j s h in
          omega arith

  -- H and L where all segments are of one kind
  pub all-heavy : ((j : ℕ) → j < s → is_heavy T C P (m j) ≡ true) → (heavy_work T C P s m e ≡ sum_to s (λ j. m j * e j)) × (light_length T C P s m e ≡ 0)
  unfolding heavy_work light_length
  all-heavy a = (sum_same s _ _ (λ j h. rw (a j h)), sum_same s _ (λ j. 0) (λ j h. rw (a j h)) ∙ sum-zero s)

  pub all-light : ((j : ℕ) → j < s → is_heavy T C P (m j) ≡ false) → (heavy_work T C P s m e ≡ 0) × (light_length T C P s m e ≡ sum_to s e)
  unfolding heavy_work light_length
  all-light a = (sum_same s _ (λ j. 0) (λ j h. rw (a j h)) ∙ sum-zero s, sum_same s _ _ (λ j h. rw (a j h)))

  -- some segment is heavy: H is above 0
  pub some-heavy : ((j : ℕ) → j < s → 0 < m j) → ((j : ℕ) → j < s → 0 < e j) → (heavies T C P s m ≡ 0 → ⊥) → 0 < heavy_work T C P s m e
  unfolding heavies heavy_work
  some-heavy p q some = ⊎_elim (λ (h : 0 < H). h) (λ (z : H ≤ 0). absurd (some (sum_same s _ (λ j. 0) (λ j l. none z j l) ∙ sum-zero s))) (lt-or-ge 0 H)
    where
      H : ℕ
      H = sum_to s (λ j. pick (is_heavy T C P (m j)) (m j * e j) 0)

      none : H ≤ 0 → (j : ℕ) → j < s → one (is_heavy T C P (m j)) ≡ 0
      none z j l = by-test (is_heavy T C P (m j)) (λ t. absurd (at_least t)) (λ t. rw t)
        where
          at_least : is_heavy T C P (m j) ≡ true → ⊥
          at_least t =
              let x : pick (is_heavy T C P (m j)) (m j * e j) 0 ≡ m j * e j = rw t in
              let u = sum-under (λ j. pick (is_heavy T C P (m j)) (m j * e j) 0) j s l in
              let y = mul-pos (p j l) (q j l) in
              omega arith

-- count, H and L of no segment, and of one segment more
pub kinds-none : (T C P : ℕ) (m e : ℕ → ℕ) → record { heavies = 0; work = 0; length = 0 } ≡ kinds T C P 0 m e
unfolding heavies heavy_work light_length sum_to
kinds-none T C P m e = refl

module _ (T C P j : ℕ) (m e : ℕ → ℕ) {k : Kinds} where
  pub kinds-heavy : is_heavy T C P (m j) ≡ true → k ≡ kinds T C P j m e → record { heavies = k.heavies + 1; work = k.work + m j * e j; length = k.length } ≡ kinds T C P (j + 1) m e
  unfolding heavies heavy_work light_length
  kinds-heavy t i = rw i (simp (sum_to-more, t, add-zero))

  pub kinds-light : is_heavy T C P (m j) ≡ false → k ≡ kinds T C P j m e → record { heavies = k.heavies; work = k.work; length = k.length + e j } ≡ kinds T C P (j + 1) m e
  unfolding heavies heavy_work light_length
  kinds-light t i = rw i (simp (sum_to-more, t, add-zero))
