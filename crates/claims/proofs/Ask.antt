-- Asking for a verdict answers by its rules, and a yes is its inequality, whichever of the two verdicts it is.
use mathlib.Core.Path.{◌≡◌, refl, sym, ap, ◌∙◌}
use mathlib.Core.Logic.{inl, inr, ⊎_elim}
use mathlib.Core.Bool.{Bool, true, false}
use mathlib.Core.List.{List}
use Prim.Native.Nat.{ℕ, ◌≤◌, ◌<◌}
use native.Mathlib.Omega.{arith}
use lib.Dec.{leb}
use borrow.Author.Tests.{leb-true, leb-false, eqb-false}
use Rattle.std.specs.Prelude.{Result, ⊤}
use Rattle.plain.specs.Pick.{one}
use Rattle.refusals.specs.declared.Answer.{Answer}
use Rattle.refusals.specs.declared.Refusal.{Refusal}
use Rattle.refusals.specs.Refusal.{on_outcome}
use Rattle.refusals.specs.Answer.{accepted, refused}
use Rattle.boards.specs.declared.Row.{Row}
use Rattle.boards.specs.Sound.{Sound}
use Rattle.boards.specs.Verdict.{verdict}
use Rattle.overheads.specs.ToEnd.{verdict_to_end, asked_to_end}
use Rattle.boards.specs.Change.{asked_by, asked}
use Rattle.plain.proofs.Tests.{not-held}
use Rattle.boards.proofs.Cases.{Before, before}
use Rattle.boards.proofs.Cases.Before.{unsound, outside, asks}
use Rattle.planner.specs.Calls.{ask_call, ask_to_end_call}
use Rattle.claims.specs.Rule.{Decides}
use Rattle.claims.specs.Ask.{ask_rules, Fits, yes_when, OfAsking}
use Rattle.claims.specs.ToEnd.{FitsToEnd, OfAskingToEnd}
use Rattle.claims.proofs.Rule.{OneValue, single, gives, not-given}
use Rattle.claims.proofs.Promise.{promised}

-- a test that says just where something fits
pub record Tells (says : Bool) (Fit : Type 0) : Type 0 where
  pub holds : says ≡ true → Fit
  pub fails : says ≡ false → Fit → ⊥

-- so it says yes where that fits, and no where it doesn't
fit-says : (says : Bool) {Fit : Type 0} → Tells says Fit → Fit → says ≡ true
fit-says true t f = refl
fit-says false t f = absurd (t.fails refl f)

unfit-says : (says : Bool) {Fit : Type 0} → Tells says Fit → (Fit → ⊥) → says ≡ false
unfit-says says t n = not-held says (λ e. n (t.holds e))

-- two tests of what fits alike say the same
pub same-says : (a b : Bool) {Fit Other : Type 0} → Tells a Fit → Tells b Other → (Fit → Other) → (Other → Fit) → a ≡ b
same-says a true t u to from = fit-says a t (from (u.holds refl))
same-says a false t u to from = unfit-says a t (λ f. u.fails refl (to f))

le-tells : (a b : ℕ) → Tells (leb a b) (a ≤ b)
le-tells a b = record { holds = leb-true a b; fails = λ e. not-le (leb-false a b e) }
  where
    not-le : b < a → a ≤ b → ⊥
    not-le h l = omega arith

-- yes or no, one of them
one_told : (Fit : Type 0) → OneValue (yes_when Fit)
one_told Fit v w (inl (f, e)) (inl (g, d)) = e ∙ sym d
one_told Fit v w (inl (f, e)) (inr (n, d)) = absurd (n f)
one_told Fit v w (inr (n, e)) (inl (g, d)) = absurd (n g)
one_told Fit v w (inr (n, e)) (inr (k, d)) = e ∙ sym d

module _ (says : List Row → ℕ → Bool) (rows : List Row) (m : ℕ) (Fit : Type 0) (tells : Tells (says rows m) Fit) where
  -- the rules decide the answer
  decides : Decides (ask_rules rows m) (yes_when Fit) (asked_by says rows m)
  unfolding asked_by
  decides = go (before rows m)
    where
      value : (b : Bool) → says rows m ≡ b → yes_when Fit (one b)
      value true e = inl (tells.holds e, refl)
      value false e = inr (tells.fails e, refl)

      go : {o : Result ⊤ Refusal} → Before rows m o → Decides (ask_rules rows m) (yes_when Fit) (on_outcome refused (accepted (one (says rows m))) o)
      go (unsound u) = inl (gives 17 u refl)
      go (outside s a) = inr (not-given (λ u. u s), inl (gives 15 a refl))
      go (asks s l h) = inr (not-given (λ u. u s), inr (not-given (⊎_elim (λ (z : m ≡ 0). omega arith) (λ (g : 64 < m). omega arith)), (one (says rows m), value (says rows m) refl, refl)))

  -- a yes is the inequality, on a sound board and a core count in its range
  pub yes-means : asked_by says rows m ≡ accepted 1 → Sound rows × (1 ≤ m) × (m ≤ 64) × Fit
  unfolding asked_by
  yes-means = go (before rows m)
    where
      yes-holds : (b : Bool) → one b ≡ 1 → b ≡ true
      yes-holds true e = refl
      yes-holds false e = absurd (omega arith)

      go : {o : Result ⊤ Refusal} → Before rows m o → on_outcome refused (accepted (one (says rows m))) o ≡ accepted 1 → Sound rows × (1 ≤ m) × (m ≤ 64) × Fit
      go (unsound u) e = absurd (eqb-false 17 0 refl (ap (λ (a : Answer). a.refusal) e))
      go (outside s c) e = absurd (eqb-false 15 0 refl (ap (λ (a : Answer). a.refusal) e))
      go (asks s l h) e = (s, l, h, tells.holds (yes-holds (says rows m) (ap (λ (a : Answer). a.value) e)))

  -- on a sound board and for a core count in its range it is yes or no
  told : Sound rows → 1 ≤ m → m ≤ 64 → asked_by says rows m ≡ accepted (one (says rows m))
  unfolding asked_by
  told s low high = go (before rows m)
    where
      go : {o : Result ⊤ Refusal} → Before rows m o → on_outcome refused (accepted (one (says rows m))) o ≡ accepted (one (says rows m))
      go (unsound u) = absurd (u s)
      go (outside t c) = absurd (⊎_elim (λ (z : m ≡ 0). omega arith) (λ (g : 64 < m). omega arith) c)
      go (asks t l h) = refl

  -- yes where the inequality holds, no where it doesn't
  pub means-yes : Sound rows → 1 ≤ m → m ≤ 64 → Fit → asked_by says rows m ≡ accepted 1
  means-yes s low high f = told s low high ∙ ap (λ (b : Bool). accepted (one b)) (fit-says (says rows m) tells f)

  pub means-no : Sound rows → 1 ≤ m → m ≤ 64 → (Fit → ⊥) → asked_by says rows m ≡ accepted 0
  means-no s low high n = told s low high ∙ ap (λ (b : Bool). accepted (one b)) (unfit-says (says rows m) tells n)

-- the two verdicts
module _ (rows : List Row) (m : ℕ) where
  pub fits_told : Tells (verdict rows m) (Fits rows m)
  fits_told = le-tells _ _

  pub fits-to-end-told : Tells (verdict_to_end rows m) (FitsToEnd rows m)
  fits-to-end-told = le-tells _ _

  pub yes-fits : asked rows m ≡ accepted 1 → Fits rows m
  yes-fits y = (yes-means verdict rows m (Fits rows m) fits_told y).3

  pub fits-yes : Sound rows → 1 ≤ m → m ≤ 64 → Fits rows m → asked rows m ≡ accepted 1
  fits-yes = means-yes verdict rows m (Fits rows m) fits_told

  pub yes-fits-to-end : asked_to_end rows m ≡ accepted 1 → FitsToEnd rows m
  yes-fits-to-end y = (yes-means verdict_to_end rows m (FitsToEnd rows m) fits-to-end-told y).3

  pub fits-yes-to-end : Sound rows → 1 ≤ m → m ≤ 64 → FitsToEnd rows m → asked_to_end rows m ≡ accepted 1
  fits-yes-to-end = means-yes verdict_to_end rows m (FitsToEnd rows m) fits-to-end-told

  -- what fits with the overhead fits without it
  preemptive : asked_to_end rows m ≡ accepted 1 → asked rows m ≡ accepted 1
  preemptive y = let (s, l, h, f) = yes-means verdict_to_end rows m (FitsToEnd rows m) fits-to-end-told y in fits-yes s l h (omega arith)

-- the promises
pub of-asking : OfAsking
of-asking rows m = promised (ask_call rows m) (ask_rules rows m) (yes_when (Fits rows m)) (single _ _, (single _ _, tt)) (one_told (Fits rows m)) (decides verdict rows m (Fits rows m) (fits_told rows m)) (λ n. refl) (λ z. refl)

pub of-asking-to-end : OfAskingToEnd
of-asking-to-end = record {
  call = λ rows m. promised (ask_to_end_call rows m) (ask_rules rows m) (yes_when (FitsToEnd rows m)) (single _ _, (single _ _, tt)) (one_told (FitsToEnd rows m))
      (decides verdict_to_end rows m (FitsToEnd rows m) (fits-to-end-told rows m)) (λ n. refl) (λ z. refl);
  preemptive = preemptive;
}
