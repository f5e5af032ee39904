-- Rules decide one answer, because each step asks whether one rule gives a refusal, a rule gives one at most, and a value is one number.
use mathlib.Core.Path.{◌≡◌, refl, sym, ap, ◌∙◌}
use mathlib.Core.Logic.{inl, inr}
use mathlib.Core.List.{List, [], ◌∷◌}
use Prim.Native.Nat.{ℕ}
use Rattle.std.specs.Prelude.{Result, Err, ⊤}
use Rattle.refusals.specs.declared.Refusal.{Refusal}
use Rattle.refusals.specs.declared.Answer.{Answer}
use Rattle.refusals.specs.Refusal.{refusal}
use Rattle.refusals.specs.Answer.{accepted, refused}
use Rattle.claims.specs.Rule.{Rule, rule_at, rule, rule_by, Decides, OnlyWhen}

-- one number at most
abbrev pub OneValue : (ℕ → Type 0) → Type 0
OneValue value = (v w : ℕ) → value v → value w → v ≡ w

-- each rule gives one refusal at most, with a set of nodes beside 10 alone
pub record Single (given : Rule) : Type 0 where
  pub one : (r s : Refusal) → given r → given s → r ≡ s
  pub bare : (r : Refusal) → given r → (r.number ≡ 10 → ⊥) → r.ring ≡ 0

abbrev pub Singles : List Rule → Type 0
Singles [] = Unit {0}
Singles (first ∷ later) = Single first × Singles later

-- a line of the table does
pub single-at : (number place : ℕ) (given : Type 0) → Single (rule_at number place given)
single-at number place given = record { one = λ r s p q. p.1 ∙ sym q.1; bare = λ r p n. ap (λ (x : Refusal). x.ring) p.1 }

pub single : (number : ℕ) (given : Type 0) → Single (rule number given)
single number given = single-at number 0 given

-- and so does a relation that an outcome follows
pub single-by : (gives : (number place : ℕ) → Type 0) (outcome : Result ⊤ Refusal) → ((k place : ℕ) → gives k place → outcome ≡ Err (refusal k place)) → Single (rule_by gives)
single-by gives outcome told = record { one = one; bare = λ r p n. ap (λ (x : Refusal). x.ring) p.3 }
  where
    one : (r s : Refusal) → rule_by gives r → rule_by gives s → r ≡ s
    one r s (k, p, f, e) (l, q, g, d) = let same = sym (told k p f) ∙ told l q g in let z : refusal k p ≡ refusal l q = cc in e ∙ z ∙ sym d

-- the rules decide one answer
one-decision : (rules : List Rule) {value : ℕ → Type 0} → Singles rules → OneValue value → (a b : Answer) → Decides rules value a → Decides rules value b → a ≡ b
one-decision [] s alone a b (v, p, e) (w, q, f) = e ∙ ap accepted (alone v w p q) ∙ sym f
one-decision (first ∷ later) s alone a b (inl (r, p, e)) (inl (t, q, f)) = e ∙ ap refused (s.0.one r t p q) ∙ sym f
one-decision (first ∷ later) s alone a b (inl (r, p, e)) (inr (n, d)) = absurd (n r p)
one-decision (first ∷ later) s alone a b (inr (n, d)) (inl (r, p, e)) = absurd (n r p)
one-decision (first ∷ later) s alone a b (inr (n, d)) (inr (m, c)) = one-decision later s.1 alone a b d c

-- so an answer that they decide is the only one
pub only-when : (rules : List Rule) (value : ℕ → Type 0) {answer : Answer} → Singles rules → OneValue value → Decides rules value answer → OnlyWhen rules value answer
only-when rules value {answer} s alone d = λ a. (λ e. one-decision rules s alone a answer e d, λ e. rw e d)

-- and shows a set beside 10 alone
pub bare-answer : (rules : List Rule) (value : ℕ → Type 0) (answer : Answer) → Singles rules → Decides rules value answer → (answer.refusal ≡ 10 → ⊥) → answer.ring ≡ 0
bare-answer [] value answer s (v, p, e) n = rw e
bare-answer (first ∷ later) value answer s (inl (r, p, e)) n = rw e (s.0.bare r p (λ z. n (rw e z)))
bare-answer (first ∷ later) value answer s (inr (m, d)) n = bare-answer later value answer s.1 d n

-- a line of the table that holds, and one that doesn't
pub gives : (number : ℕ) {given : Type 0} {answer : Answer} → given → answer ≡ refused (refusal number 0) → (r : Refusal) × rule number given r × (answer ≡ refused r)
gives number g e = (refusal number 0, (g, refl), e)

pub not-given : {number : ℕ} {given : Type 0} → (given → ⊥) → (r : Refusal) → rule number given r → ⊥
not-given n r p = n p.0
