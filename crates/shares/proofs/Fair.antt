-- Every deal shares out the whole period, and no segment comes off badly. Which of the three deals it is settles each segment's kind or
-- leaves some heavy work; from there every law is a line of arithmetic on m × (2T − P) against C.
use mathlib.Core.Path.{◌≡◌, sym, ◌∙◌}
use mathlib.Core.Bool.{true, false, false≢true}
use Prim.Native.Nat.{ℕ, ◌+◌, ◌*◌, ◌-◌, ◌≤◌, ◌<◌}
use native.Mathlib.Nat.{mul-le-mul, mul-le-mul_left, mul-le-mul_right, le_trans}
use native.Mathlib.Omega.{arith}
use Rattle.plain.specs.Sums.{sum_to}
use Rattle.plain.proofs.Sums.{sum_mono, sum-under}
use Rattle.shares.specs.declared.Deal.{Deal}
use Rattle.shares.specs.Heavy.{is_heavy, heavy_work, light_length}
use Rattle.shares.specs.Deal.{deal, numerator}
use Rattle.shares.specs.Inner.Segmented.{Segmented}
use Rattle.shares.proofs.Products.{sort, lifts, within, shared-out}
use Rattle.shares.proofs.Heavies.{heavy-test, light-test, by-test, heavy-le, light-le, each-heavy, each_light, all-heavy, all-light}
use Rattle.shares.proofs.Deals.{dealt_to, numerator-heavy, numerator-light, deal-both, Dealt, heavy-all, light-all, both, dealt, sum-numerators}

-- what a segment's numerator n over Q keeps to: at least half its length, no denser than twice C / T
pub record Fair (T C Q m e n : ℕ) : Type 0 where
  pub half : e * Q ≤ 2 * n
  pub thin : m * e * Q * T ≤ 2 * C * n

-- the four ways to come by a numerator, on plain numbers
module _ (T C P m e : ℕ) (fits : P ≤ T) where
  fair-all-heavy : C < m * (2 * T - P) → Fair T C C m e (T * m * e)
  fair-all-heavy t =
      let q : m * (2 * T - P) ≤ m * (2 * T) = mul-le-mul_left m (omega arith) in
      let h = lifts (2 * T) m e C (omega arith) in
      record { half = simp sort (simp sort at h); thin = simp sort (omega arith) }

  fair-all-light : m * (2 * T - P) ≤ C → Fair T C P m e (e * T)
  fair-all-light t =
      let q : m * P ≤ C = le_trans (mul-le-mul_left m (omega arith)) t in
      let h = within C m e P T q in
      record { half = omega (arith, mul-le-mul_left e fits); thin = simp sort (omega (arith, simp sort at h)) }

  fair-heavy : (H L : ℕ) → L ≤ P → H ≤ C → C < m * (2 * T - P) → Fair T C (2 * H) m e ((2 * T - L) * m * e)
  fair-heavy H L low hc t =
      let q : m * (2 * T - P) ≤ m * (2 * T - L) = mul-le-mul_left m (omega arith) in
      let h = lifts (2 * T - L) m e H (omega arith) in
      record { half = simp sort (omega (arith, simp sort at h)); thin = thin-rate (2 * T - L) (omega arith) }
    where
      thin-rate : (E : ℕ) → T ≤ E → m * e * (2 * H) * T ≤ 2 * C * (E * m * e)
      thin-rate E f = simp sort (omega (arith, simp sort at (mul-le-mul_left (m * e) (mul-le-mul hc f))))

  fair-light : (H : ℕ) → m * (2 * T - P) ≤ C → Fair T C (2 * H) m e (e * H)
  fair-light H t =
      let q : m * T ≤ C = le_trans (mul-le-mul_left m (omega arith)) t in
      let h = within C m e T (2 * H) q in
      record { half = simp sort (omega arith); thin = simp sort (omega (arith, simp sort at h)) }

-- in a task with both kinds a light segment's numerator is exactly half its length over Q
pub light-half : (T C P s : ℕ) (m e : ℕ → ℕ) (i j : ℕ) → i < s → is_heavy T C P (m i) ≡ true → j < s → is_heavy T C P (m j) ≡ false
    → 2 * dealt_to T C P s m e j ≡ e j * (deal T C P s m e).over
light-half T C P s m e i j k heavy l light = rw (
  deal-both T C P s m e (λ a. false≢true (sym light ∙ each-heavy T C P s m e a j l)) (λ a. false≢true (sym (each_light T C P s m e a i k) ∙ heavy)),
  numerator-light _ T C P (m j) (e j) light,
) (simp sort (omega arith))

module _ {T C P s : ℕ} {m e : ℕ → ℕ} (cut : Segmented T C P s m e) where
  -- H is within the work, L within the path
  pub heavy-whole : heavy_work T C P s m e ≤ C
  heavy-whole = omega (arith, heavy-le T C P s m e)

  pub light-whole : light_length T C P s m e ≤ P
  light-whole = omega (arith, light-le T C P s m e)

  -- the segments' numerators sum to T × Q
  pub whole : sum_to s (dealt_to T C P s m e) ≡ T * (deal T C P s m e).over
  whole = sum-numerators (deal T C P s m e) T C P s m e ∙ go (dealt cut)
    where
      go : {d : Deal} → Dealt T C P s m e d → heavy_work T C P s m e * d.heavy + light_length T C P s m e * d.light ≡ T * d.over
      go (heavy-all a) = let k = all-heavy T C P s m e a in rw (k.0, k.1, ← cut.work) (omega arith)
      go (light-all a) = let k = all-light T C P s m e a in rw (k.0, k.1, ← cut.path) (omega arith)
      go (both h) = shared-out T (light_length T C P s m e) (2 * T - light_length T C P s m e) (heavy_work T C P s m e) (omega (arith, light-whole))

  -- one segment, by the deal and by its own kind, and by the deal that it is
  fair-in : {d : Deal} → Dealt T C P s m e d → (j : ℕ) → j < s → Fair T C d.over (m j) (e j) (numerator d T C P (m j) (e j))
  fair-in {d} given j l = go given
    where
      heavy-here : is_heavy T C P (m j) ≡ true → C < m j * (2 * T - P)
      heavy-here = heavy-test T C P (m j)

      light-here : is_heavy T C P (m j) ≡ false → m j * (2 * T - P) ≤ C
      light-here = light-test T C P (m j)

      go : {d : Deal} → Dealt T C P s m e d → Fair T C d.over (m j) (e j) (numerator d T C P (m j) (e j))
      go {d} (heavy-all a) = rw (numerator-heavy d T C P (m j) (e j) (a j l)) (fair-all-heavy T C P (m j) (e j) cut.within (heavy-here (a j l)))
      go {d} (light-all a) = rw (numerator-light d T C P (m j) (e j) (a j l)) (fair-all-light T C P (m j) (e j) cut.within (light-here (a j l)))
      go {d} (both h) = by-test (is_heavy T C P (m j))
          (λ t. rw (numerator-heavy d T C P (m j) (e j) t) (fair-heavy T C P (m j) (e j) cut.within (heavy_work T C P s m e) (light_length T C P s m e) light-whole heavy-whole (heavy-here t)))
          (λ t. rw (numerator-light d T C P (m j) (e j) t) (fair-light T C P (m j) (e j) cut.within (heavy_work T C P s m e) (light-here t)))

  pub fair : (j : ℕ) → j < s → Fair T C (deal T C P s m e).over (m j) (e j) (dealt_to T C P s m e j)
  fair = fair-in (dealt cut)

  -- each segment's numerator is at least half its length over Q
  pub half : (j : ℕ) → j < s → e j * (deal T C P s m e).over ≤ 2 * dealt_to T C P s m e j
  half j l = (fair j l).half

  -- no segment is denser than twice C / T
  pub thin : (j : ℕ) → j < s → m j * e j * (deal T C P s m e).over * T ≤ 2 * C * dealt_to T C P s m e j
  thin j l = (fair j l).thin

  -- the path is above 0 and at most the work; Q is above 0 and at most twice the work
  path-some : 0 < P
  path-some = let a = sum-under e 0 s cut.some in let b = cut.lengths 0 cut.some in omega arith

  pub path-le : P ≤ C
  path-le = omega (arith, sum_mono s e (λ j. m j * e j) (λ j l. omega (arith, mul-le-mul_right (e j) (cut.threads j l))))

  pub over-some : 0 < (deal T C P s m e).over
  over-some = go (dealt cut)
    where
      go : {d : Deal} → Dealt T C P s m e d → 0 < d.over
      go (heavy-all a) = omega (arith, path-some, path-le)
      go (light-all a) = path-some
      go (both h) = omega arith

  pub over-le : (deal T C P s m e).over ≤ 2 * C
  over-le = go (dealt cut)
    where
      go : {d : Deal} → Dealt T C P s m e d → d.over ≤ 2 * C
      go (heavy-all a) = omega arith
      go (light-all a) = omega (arith, path-le)
      go (both h) = omega (arith, heavy-whole)
