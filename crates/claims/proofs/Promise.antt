-- A promise of a call whose contract is an equation: what the contract allows is what the call comes to.
use mathlib.Core.Path.{◌≡◌, sym, ◌∙◌}
use mathlib.Core.List.{List}
use Prim.Native.Nat.{ℕ}
use Rattle.refusals.specs.After.{After}
use Rattle.claims.specs.Rule.{Rule, Decides, IsAccepted, IsRefused}
use Rattle.claims.specs.Promise.{Promise}
use Rattle.claims.proofs.Rule.{OneValue, Singles, only-when, bare-answer}

pub promised : {Lent : Type 0} (call : After Lent) {lent : Lent} (rules : List Rule) (value : ℕ → Type 0) {left : ℕ → Lent}
    → Singles rules
    → OneValue value
    → Decides rules value call.answer
    → (IsRefused call.answer → call.lent ≡ lent)
    → (IsAccepted call.answer → call.lent ≡ left call.answer.value)
    → Promise (λ (a : After Lent). a ≡ call) lent rules value left
promised call rules value singles alone decided untouched written = record {
  one_answer = λ a b p q. p ∙ sym q;
  only-when = λ a e. rw e (only-when rules value singles alone decided);
  empty-set = λ a e. rw e (bare-answer rules value call.answer singles decided);
  untouched = λ a e. rw e untouched;
  written = λ a e. rw e written;
}

-- and so of a call that allows no more
pub narrowed : {Lent : Type 0} {allows fewer : After Lent → Type 0} {lent : Lent} {rules : List Rule} {value : ℕ → Type 0} {left : ℕ → Lent} →
    ((a : After Lent) → fewer a → allows a) → Promise allows lent rules value left → Promise fewer lent rules value left
narrowed f p = record {
  one_answer = λ a b x y. p.one_answer a b (f a x) (f b y);
  only-when = λ a x. p.only-when a (f a x);
  empty-set = λ a x. p.empty-set a (f a x);
  untouched = λ a x. p.untouched a (f a x);
  written = λ a x. p.written a (f a x);
}
