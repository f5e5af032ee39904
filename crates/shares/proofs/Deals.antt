-- The three deals: the count of heavy segments says which one it is, and with it what is known of every segment. From there a deal's
-- numerators sum to what each unit of heavy work gets and what each unit of light length gets.
use mathlib.Core.Path.{◌≡◌, refl, ap₂, ◌∙◌}
use mathlib.Core.Bool.{Bool, true, false}
use Prim.Native.Nat.{ℕ, ◌+◌, ◌*◌, ◌<◌}
use native.Mathlib.Omega.{arith}
use lib.Dec.{eqb}
use borrow.Author.Tests.{eqb-true, eqb-false, eq-eqb, ne_eqb}
use Rattle.plain.specs.Pick.{pick, one}
use Rattle.plain.specs.Sums.{sum_to}
use Rattle.plain.proofs.Sums.{sum_same, sum-add, sum-mul}
use Rattle.shares.specs.declared.Deal.{Deal}
use Rattle.shares.specs.Heavy.{is_heavy, heavies, heavy_work, light_length}
use Rattle.shares.specs.Deal.{all_heavy, all_light, both_kinds, deal, numerator}
use Rattle.shares.specs.Inner.Segmented.{Segmented}
use Rattle.shares.proofs.Products.{sort}
use Rattle.shares.proofs.Heavies.{each-heavy, each_light, some-heavy}

-- the deadline numerator that segment j of a task is dealt
abbrev pub dealt_to : (T C P s : ℕ) (m e : ℕ → ℕ) (j : ℕ) → ℕ
dealt_to T C P s m e j = numerator (deal T C P s m e) T C P (m j) (e j)

-- a segment's numerator by its kind
pub numerator-heavy : (d : Deal) (T C P m e : ℕ) → is_heavy T C P m ≡ true → numerator d T C P m e ≡ d.heavy * m * e
unfolding numerator
numerator-heavy d T C P m e t = rw t

pub numerator-light : (d : Deal) (T C P m e : ℕ) → is_heavy T C P m ≡ false → numerator d T C P m e ≡ e * d.light
unfolding numerator
numerator-light d T C P m e t = rw t

-- which deal it is, by the count
module _ (T C P s : ℕ) (m e : ℕ → ℕ) where
  pub deal-heavy : heavies T C P s m ≡ s → deal T C P s m e ≡ all_heavy T C
  unfolding deal
  deal-heavy h = rw (eq-eqb _ _ h)

  pub deal-light : (heavies T C P s m ≡ s → ⊥) → heavies T C P s m ≡ 0 → deal T C P s m e ≡ all_light T P
  unfolding deal
  deal-light n h = rw (ne_eqb _ _ n, eq-eqb _ _ h)

  pub deal-both : (heavies T C P s m ≡ s → ⊥) → (heavies T C P s m ≡ 0 → ⊥) → deal T C P s m e ≡ both_kinds T (heavy_work T C P s m e) (light_length T C P s m e)
  unfolding deal
  deal-both n k = rw (ne_eqb _ _ n, ne_eqb _ _ k)

-- equal threads and lengths, equal deal
pub deal-same : (T C P s : ℕ) (m e m' e' : ℕ → ℕ) → ((j : ℕ) → j < s → m j ≡ m' j) → ((j : ℕ) → j < s → e j ≡ e' j) → deal T C P s m e ≡ deal T C P s m' e'
unfolding deal heavies heavy_work light_length
deal-same T C P s m e m' e' p q =
    rw (
      sum_same s (λ j. one (is_heavy T C P (m j))) (λ j. one (is_heavy T C P (m' j))) (λ j l. rw (p j l)),
      sum_same s (λ j. pick (is_heavy T C P (m j)) (m j * e j) 0) (λ j. pick (is_heavy T C P (m' j)) (m' j * e' j) 0) (λ j l. rw (p j l, q j l)),
      sum_same s (λ j. pick (is_heavy T C P (m j)) 0 (e j)) (λ j. pick (is_heavy T C P (m' j)) 0 (e' j)) (λ j l. rw (p j l, q j l)),
    )

-- and what the cut of a task gives holds of them too
pub segmented-same : {T C P s : ℕ} {m e : ℕ → ℕ} (m' e' : ℕ → ℕ) → ((j : ℕ) → j < s → m j ≡ m' j) → ((j : ℕ) → j < s → e j ≡ e' j) → Segmented T C P s m e → Segmented T C P s m' e'
segmented-same {s = s} m' e' p q cut =
    record {
      path = cut.path ∙ sum_same s _ e' q;
      work = cut.work ∙ sum_same s _ (λ j. m' j * e' j) (λ j l. rw (p j l, q j l));
      threads = λ j l. rw (p j l) at (cut.threads j l);
      lengths = λ j l. rw (q j l) at (cut.lengths j l);
      within = cut.within;
      some = cut.some;
    }

-- which of the three deals it is, and what that says of the segments
pub data Dealt (T C P s : ℕ) (m e : ℕ → ℕ) : Deal → Type 0 where
  heavy-all : ((j : ℕ) → j < s → is_heavy T C P (m j) ≡ true) → Dealt T C P s m e (all_heavy T C)
  light-all : ((j : ℕ) → j < s → is_heavy T C P (m j) ≡ false) → Dealt T C P s m e (all_light T P)
  both : 0 < heavy_work T C P s m e → Dealt T C P s m e (both_kinds T (heavy_work T C P s m e) (light_length T C P s m e))

pub dealt : {T C P s : ℕ} {m e : ℕ → ℕ} → Segmented T C P s m e → Dealt T C P s m e (deal T C P s m e)
unfolding deal
dealt {T} {C} {P} {s} {m} {e} cut = go (eqb (heavies T C P s m) s) (eqb (heavies T C P s m) 0) refl refl
  where
    go : (a b : Bool) → eqb (heavies T C P s m) s ≡ a → eqb (heavies T C P s m) 0 ≡ b → Dealt T C P s m e (pick a (all_heavy T C) (pick b (all_light T P) (both_kinds T (heavy_work T C P s m e) (light_length T C P s m e))))
    go true b p q = heavy-all (each-heavy T C P s m e (eqb-true _ _ p))
    go false true p q = light-all (each_light T C P s m e (eqb-true _ _ q))
    go false false p q = both (some-heavy T C P s m e cut.threads cut.lengths (eqb-false _ _ q))

-- the numerators summed: what each unit of heavy work gets, and each unit of light length
pub sum-numerators : (d : Deal) (T C P s : ℕ) (m e : ℕ → ℕ) → sum_to s (λ j. numerator d T C P (m j) (e j)) ≡ heavy_work T C P s m e * d.heavy + light_length T C P s m e * d.light
unfolding heavy_work light_length numerator
sum-numerators d T C P s m e =
    sum_same s _ _ (λ j h. term (is_heavy T C P (m j)) (m j) (e j)) ∙ sum-add s (λ j. pick (is_heavy T C P (m j)) (m j * e j) 0 * d.heavy) (λ j. pick (is_heavy T C P (m j)) 0 (e j) * d.light) ∙ ap₂ (λ (x y : ℕ). x + y) (sum-mul s _ d.heavy) (sum-mul s _ d.light)
  where
    term : (b : Bool) (x y : ℕ) → pick b (d.heavy * x * y) (y * d.light) ≡ pick b (x * y) 0 * d.heavy + pick b 0 y * d.light
    term true x y = simp sort (omega arith)
    term false x y = simp sort (omega arith)
