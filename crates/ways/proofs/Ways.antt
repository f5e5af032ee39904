-- Longest ways: an end after r rounds no longer changes once r passes the node's rank, because a parent's rank is lower. So without a
-- loop n rounds obey the document's equation; and whatever obeys it agrees with the rounds, node by node in the order of rank.
use mathlib.Core.Path.{◌≡◌, refl, sym, ap, ◌∙◌}
use mathlib.Core.Logic.{◌⊎◌}
use mathlib.Core.List.{List}
use Prim.Native.Nat.{ℕ, zero, suc, ◌+◌, ◌≤◌, ◌<◌}
use native.Mathlib.Nat.{not-suc-le-zero}
use native.Mathlib.Omega.{arith}
use Rattle.plain.specs.At.{at}
use Rattle.plain.proofs.Lists.{at-tab, at-tab-past}
use Rattle.sets.specs.Member.{Member}
use Rattle.sets.specs.Greatest.{greatest}
use Rattle.sets.proofs.Greatest.{le-greatest, greatest-same, greatest-is}
use Rattle.ways.specs.Reaches.{Reaches}
use Rattle.ways.specs.Inner.Tidy.{Tidy}
use Rattle.ways.specs.Ways.{begin_by, end_by, ends_after, ends, begins}
use Rattle.ways.proofs.Reaches.{parent-lt, child-lt}
use Rattle.ways.proofs.Closure.{rank, rank_falls, rank_lt}

-- ends that agree at the parents give one begin
pub begin-same : (P : List ℕ) (n : ℕ) (E F : ℕ → ℕ) (v : ℕ) → ((p : ℕ) → p < n → Member p (at P v) → E p ≡ F p) → begin_by P n E v ≡ begin_by P n F v
begin-same P n E F v = greatest-same n (at P v) E F

module _ (P W : List ℕ) (n : ℕ) where
  -- ---- the definitions, entry by entry; past n everything is 0
  -- ends after rounds
  at_after : (r v : ℕ) → v < n → at (ends_after P W n (suc r)) v ≡ end_by P W n (at (ends_after P W n r)) v
  unfolding ends_after
  at_after r v h = at-tab n (end_by P W n (at (ends_after P W n r))) v h

  after-past : (r v : ℕ) → n ≤ v → at (ends_after P W n r) v ≡ 0
  unfolding ends_after
  after-past zero v h = refl
  after-past (suc r) v h = at-tab-past n (end_by P W n (at (ends_after P W n r))) v h

  -- ends
  pub ends-past : (v : ℕ) → n ≤ v → at (ends P W n) v ≡ 0
  unfolding ends
  ends-past v h = after-past n v h

  -- begins
  pub at-begins : (v : ℕ) → v < n → at (begins P W n) v ≡ begin_by P n (at (ends P W n)) v
  unfolding begins
  at-begins v h = at-tab n (begin_by P n (at (ends P W n))) v h

  -- ---- a begin is 0 or some parent's end, and at least each parent's end
  pub begin-is : (v : ℕ) → v < n → (at (begins P W n) v ≡ 0) ⊎ ((p : ℕ) × (p < n) × Member p (at P v) × (at (begins P W n) v ≡ at (ends P W n) p))
  begin-is v h = rw (at-begins v h) (greatest-is n (at P v) (at (ends P W n)))

  pub parent-ends : Tidy P n → (v p : ℕ) → Member p (at P v) → at (ends P W n) p ≤ at (begins P W n) v
  parent-ends ok v p m = rw (at-begins v (child-lt P n ok v p m)) (le-greatest n (at P v) (at (ends P W n)) p (parent-lt P n ok v p m) m)

  -- ---- where there is no loop, the rounds come to rest, and the rest is the one answer of the rule
  module _ (ok : Tidy P n) (free : (v : ℕ) → Reaches P v v → ⊥) where
    -- past the node's rank a round changes nothing
    settled : (r v : ℕ) → v < n → rank P n v < r → at (ends_after P W n (suc r)) v ≡ at (ends_after P W n r) v
    settled zero v h l = absurd (not-suc-le-zero l)
    settled (suc r) v h l =
        at_after (suc r) v h
        ∙ ap (λ (x : ℕ). x + at W v)
        (begin-same P n (at (ends_after P W n (suc r))) (at (ends_after P W n r)) v
        (λ p k m. settled r p k (let f = rank_falls P n ok free v p m in omega arith)))
        ∙ sym (at_after r v h)

    -- "Finish is start plus execution", with the start taken from the finishes themselves
    pub rule : (v : ℕ) → v < n → at (ends P W n) v ≡ end_by P W n (at (ends P W n)) v
    unfolding ends
    rule v h = sym (settled n v h (rank_lt P n ok free v h)) ∙ at_after n v h

    -- what obeys the rule agrees with r rounds below rank r
    only-after : (F : ℕ → ℕ) → ((v : ℕ) → v < n → F v ≡ end_by P W n F v) → (r v : ℕ) → v < n → rank P n v < r → at (ends_after P W n r) v ≡ F v
    only-after F o zero v h l = absurd (not-suc-le-zero l)
    only-after F o (suc r) v h l =
        at_after r v h
        ∙ ap (λ (x : ℕ). x + at W v)
        (begin-same P n (at (ends_after P W n r)) F v (λ p k m. only-after F o r p k (let f = rank_falls P n ok free v p m in omega arith)))
        ∙ sym (o v h)

    -- so nothing else obeys it
    pub only-rule : (F : ℕ → ℕ) → ((v : ℕ) → v < n → F v ≡ end_by P W n F v) → (v : ℕ) → v < n → at (ends P W n) v ≡ F v
    unfolding ends
    only-rule F o v h = only-after F o n v h (rank_lt P n ok free v h)

    -- an end is the begin plus the weight
    pub ends-begins : (v : ℕ) → v < n → at (ends P W n) v ≡ at (begins P W n) v + at W v
    ends-begins v h = rw (at-begins v h) (rule v h)

    -- "0 without parents, else the greatest parent's offset plus deadline"
    pub begin-rule : (v : ℕ) → v < n → at (begins P W n) v ≡ greatest n (at P v) (λ p. at (begins P W n) p + at W p)
    begin-rule v h = at-begins v h ∙ begin-same P n (at (ends P W n)) (λ p. at (begins P W n) p + at W p) v (λ p k m. ends-begins p k)

    -- and nothing else obeys that
    pub only-begin-rule : (B : ℕ → ℕ) → ((v : ℕ) → v < n → B v ≡ greatest n (at P v) (λ p. B p + at W p)) → (v : ℕ) → v < n → at (begins P W n) v ≡ B v
    only-begin-rule B o v h =
        at-begins v h
        ∙ begin-same P n (at (ends P W n)) (λ p. B p + at W p) v (λ p k m. only-rule (λ w. B w + at W w) (λ w l. ap (λ (x : ℕ). x + at W w) (o w l)) p k)
        ∙ sym (o v h)
