-- The rows hold what the relation says: each stage lets in just the ways through one node more, and a way's inner nodes are below n.
-- So the test of refusal 10 holds exactly where some node reaches itself; and where none does, a node reaches more nodes than each of its
-- parents, because it reaches the parent too and the parent does not reach itself: its rank.
use mathlib.Core.Path.{◌≡◌, refl, sym, ap, ◌∙◌}
use mathlib.Core.Logic.{◌⊎◌, inl, inr, ⊎_elim}
use mathlib.Core.Bool.{Bool, true, false, ◌||◌, or-true, false≢true}
use mathlib.Core.List.{List}
use Prim.Native.Nat.{ℕ, zero, suc, ◌≤◌, ◌<◌, max}
use native.Mathlib.Nat.{le_of_suc-le-suc, not-suc-le-zero, eq-or-lt_of_le, le_refl}
use native.Mathlib.Omega.{arith}
use borrow.Author.Tests.{eq-eqb}
use Rattle.plain.specs.Pick.{pick}
use Rattle.plain.specs.At.{at}
use Rattle.plain.proofs.Lists.{lt-or-ge, at-tab-past, at-tab-all}
use Rattle.sets.specs.Member.{bit, Member, is_member}
use Rattle.sets.specs.Size.{size_to}
use Rattle.sets.proofs.Bits.{bit_le, bit-zero, mem-or, not-mem, has_in}
use Rattle.sets.proofs.Sizes.{size_less, size-lt}
use Rattle.sets.proofs.Rule.{bit-set, bit_past}
use Rattle.ways.specs.Reaches.{Reaches, edge, more, Loops}
use Rattle.ways.specs.Inner.Tidy.{Tidy}
use Rattle.ways.specs.Closure.{union, through, stage, stages, reach, some, goes_round, loops}
use Rattle.ways.proofs.Reaches.{trans, parent-lt, reached-lt, from-lt}

module _ (n a b : ℕ) where
  -- a digit of a or of b, which is 0 or 1
  either : ℕ → ℕ
  either k = max (bit k a) (bit k b)

  flag : (k : ℕ) → either k ≤ 1
  unfolding either
  flag k = let x = bit_le k a in let y = bit_le k b in omega arith

  -- a union's digits, and whose members it has
  pub bit-union : (k : ℕ) → k < n → bit k (union n a b) ≡ max (bit k a) (bit k b)
  unfolding union either
  bit-union k h = bit-set either flag n k h

  pub union-cases : (k : ℕ) → Member k (union n a b) → (Member k a) ⊎ (Member k b)
  unfolding union either
  union-cases k m = ⊎_elim
      (λ (l : k < n). let e = bit-union k l in ⊎_elim (λ (x : Member k a). inl x) (λ (z : bit k a ≡ 0). inr (omega arith)) (mem-or k a))
      (λ (g : n ≤ k). absurd (not-mem (bit_past either flag n k g) m))
      (lt-or-ge k n)

module _ (n k : ℕ) (R : ℕ → ℕ) where
  -- after a stage: where a row's members come from
  through-cases : (v q : ℕ) → Member q (through n k R v) → (Member q (R v)) ⊎ (Member k (R v) × Member q (R k))
  through-cases v q = go (is_member k (R v)) refl
    where
      go : (t : Bool) → is_member k (R v) ≡ t → Member q (pick t (union n (R v) (R k)) (R v)) → (Member q (R v)) ⊎ (Member k (R v) × Member q (R k))
      go true e m = ⊎_elim (λ (x : Member q (R v)). inl x) (λ (y : Member q (R k)). inr (has_in k (R v) e, y)) (union-cases n (R v) (R k) q m)
      go false e m = inl m

  -- an empty row stays empty
  through-zero : (v : ℕ) → R v ≡ 0 → through n k R v ≡ 0
  through-zero v e = rw (e, bit-zero k)

  module _ (low : (v q : ℕ) → Member q (R v) → q < n) where
    -- a row keeps its members
    through-keeps : (v q : ℕ) → Member q (R v) → Member q (through n k R v)
    through-keeps v q m = go (is_member k (R v))
      where
        go : (t : Bool) → Member q (pick t (union n (R v) (R k)) (R v))
        go true = let e = bit-union n (R v) (R k) q (low v q m) in let l = bit_le q (R k) in omega arith
        go false = m

    -- and gains those of row k where it has k
    through-adds : (v q : ℕ) → Member k (R v) → Member q (R k) → Member q (through n k R v)
    through-adds v q a b =
        rw (eq-eqb (bit k (R v)) 1 a)
        (let e = bit-union n (R v) (R k) q (low k q b) in let l = bit_le q (R v) in omega arith)

    -- ways through each node below d are in the rows
    abbrev Joined : (ℕ → ℕ) → ℕ → Type 0
    Joined S d = (m v q : ℕ) → m < d → Member m (S v) → Member q (S m) → Member q (S v)

    -- after the stage ways through k are in the rows too
    through-joins : Joined R k → Joined (through n k R) (suc k)
    through-joins t m v q l a b = ⊎_elim here there (eq-or-lt_of_le (le_of_suc-le-suc l))
      where
        -- what k reaches, and whether k is reached, the stage leaves as it was
        at-k : Member k (through n k R v) → Member q (through n k R k) → Member q (through n k R v)
        at-k x y = through-adds v q
            (⊎_elim (λ (z : Member k (R v)). z) (λ w. w.0) (through-cases v k x))
            (⊎_elim (λ (z : Member q (R k)). z) (λ w. w.1) (through-cases k q y))

        here : m ≡ k → Member q (through n k R v)
        here e = at-k (rw e at a) (rw e at b)

        there : m < k → Member q (through n k R v)
        there h = ⊎_elim
            (λ (x : Member m (R v)). ⊎_elim
            (λ (y : Member q (R m)). through-keeps v q (t m v q h x y))
            (λ w. through-adds v q (t m v k h x w.0) w.1)
            (through-cases m q b))
            (λ u. through-adds v q u.0 (⊎_elim (λ (y : Member q (R m)). t m k q h u.1 y) (λ w. w.1) (through-cases m q b)))
            (through-cases v m a)

-- how many nodes v reaches
unfoldable pub rank : List ℕ → ℕ → ℕ → ℕ
rank P n v = size_to n (at (reach P n) v)

module _ (P : List ℕ) (n : ℕ) (ok : Tidy P n) where
  -- past n a row is empty
  pub stages-past : (k v : ℕ) → n ≤ v → at (stages P n k) v ≡ 0
  unfolding stages stage
  stages-past zero v h = ok.past v h
  stages-past (suc k) v h = at-tab-past n (through n k (at (stages P n k))) v h

  -- the rows, entry by entry
  pub at-stages : (k v : ℕ) → at (stages P n (suc k)) v ≡ through n k (at (stages P n k)) v
  unfolding stages stage
  at-stages k = at-tab-all n (through n k (at (stages P n k))) (λ v h. through-zero n k (at (stages P n k)) v (stages-past k v h))

  -- what is in a row is reached
  sound : (k v q : ℕ) → Member q (at (stages P n k) v) → Reaches P v q
  unfolding stages
  sound zero v q m = edge m
  sound (suc k) v q m = ⊎_elim
      (λ (x : Member q (at (stages P n k) v)). sound k v q x)
      (λ w. trans (sound k v k w.0) (sound k k q w.1))
      (through-cases n k (at (stages P n k)) v q (rw (at-stages k v) at m))

  -- so it is below n
  low : (k v q : ℕ) → Member q (at (stages P n k) v) → q < n
  low k v q m = reached-lt P n ok (sound k v q m)

  -- a parent stays in, and ways through nodes below k are there after k stages
  keeps : (k v q : ℕ) → Member q (at P v) → Member q (at (stages P n k) v)
  unfolding stages
  keeps zero v q m = m
  keeps (suc k) v q m = rw (at-stages k v) (through-keeps n k (at (stages P n k)) (low k) v q (keeps k v q m))

  joins : (k m v q : ℕ) → m < k → Member m (at (stages P n k) v) → Member q (at (stages P n k) m) → Member q (at (stages P n k) v)
  joins zero m v q l a b = absurd (not-suc-le-zero l)
  joins (suc k) m v q l a b =
      rw (at-stages k v)
      (through-joins n k (at (stages P n k)) (low k) (joins k) m v q l (rw (at-stages k v) at a) (rw (at-stages k m) at b))

  -- what is reached is in the row, after n stages
  complete : {v q : ℕ} → Reaches P v q → Member q (at (stages P n n) v)
  complete (edge {v} {p} e) = keeps n v p e
  complete (more {v} {p} {q} e r) = joins n p v q (parent-lt P n ok v p e) (keeps n v p e) (complete r)

  -- a row says just what the relation says
  pub reach-mem : {v q : ℕ} → Reaches P v q → Member q (at (reach P n) v)
  unfolding reach
  reach-mem r = complete r

  pub mem-reach : (v q : ℕ) → Member q (at (reach P n) v) → Reaches P v q
  unfolding reach
  mem-reach v q m = sound n v q m

  -- ---- where there is no loop
  module _ (free : (v : ℕ) → Reaches P v v → ⊥) where
    -- no node is in its own row
    pub not-self : (v : ℕ) → bit v (at (reach P n) v) ≡ 0
    not-self v = ⊎_elim
        (λ (m : Member v (at (reach P n) v)). absurd (free v (mem-reach v v m)))
        (λ (z : bit v (at (reach P n) v) ≡ 0). z)
        (mem-or v (at (reach P n) v))

    -- a parent's rank is lower
    pub rank_falls : (v p : ℕ) → Member p (at P v) → rank P n p < rank P n v
    unfolding rank
    rank_falls v p e =
        size_less n (at (reach P n) p) (at (reach P n) v) p
        (λ q m. reach-mem (more e (mem-reach p q m)))
        (parent-lt P n ok v p e) (reach-mem (edge e)) (not-self p)

    -- and every rank is below n
    pub rank_lt : (v : ℕ) → v < n → rank P n v < n
    unfolding rank
    rank_lt v l = size-lt n (at (reach P n) v) v l (not-self v)

-- where a test holds of some number, there is one, and the other way round
some-yes : (n : ℕ) (f : ℕ → Bool) → some n f ≡ true → (v : ℕ) × (v < n) × (f v ≡ true)
unfolding some
some-yes zero f e = absurd (false≢true e)
some-yes (suc n) f e = go (some n f) (some-yes n f) e
  where
    go : (t : Bool) → (t ≡ true → (v : ℕ) × (v < n) × (f v ≡ true)) → (t || f n) ≡ true → (v : ℕ) × (v < suc n) × (f v ≡ true)
    go true ih e = let w = ih refl in (w.0, omega arith, w.2)
    go false ih e = (n, le_refl (suc n), e)

pub some_in : (n : ℕ) (f : ℕ → Bool) (v : ℕ) → v < n → f v ≡ true → some n f ≡ true
unfolding some
some_in zero f v h e = absurd (not-suc-le-zero h)
some_in (suc n) f v h e = ⊎_elim
    (λ (q : v ≡ n). ap (λ (b : Bool). some n f || b) (ap f (sym q) ∙ e) ∙ or-true (some n f))
    (λ (l : v < n). ap (λ (b : Bool). b || f n) (some_in n f v l e))
    (eq-or-lt_of_le (le_of_suc-le-suc h))

-- ---- one node, by the test and by the relation
module _ {P : List ℕ} {n v : ℕ} (ok : Tidy P n) where
  pub round-yes : goes_round P n v ≡ true → Reaches P v v
  round-yes e = mem-reach P n ok v v (has_in v (at (reach P n) v) e)

  pub round-true : Reaches P v v → goes_round P n v ≡ true
  round-true w = eq-eqb (bit v (at (reach P n) v)) 1 (reach-mem P n ok w)

  pub round-no : goes_round P n v ≡ false → Reaches P v v → ⊥
  round-no e w = false≢true (sym e ∙ round-true w)

  pub round-false : (Reaches P v v → ⊥) → goes_round P n v ≡ false
  round-false none = go (goes_round P n v) refl
    where
      go : (b : Bool) → goes_round P n v ≡ b → b ≡ false
      go true e = absurd (none (round-yes e))
      go false e = refl

-- ---- refusal 10 by the test and by the relation
module _ (P : List ℕ) (n : ℕ) (ok : Tidy P n) where
  -- the test holds: some node reaches itself
  pub loops-yes : loops P n ≡ true → Loops P n
  unfolding loops
  loops-yes e = let w = some-yes n (goes_round P n) e in (w.0, w.1, round-yes ok w.2)

  -- and the other way round
  pub loops-true : Loops P n → loops P n ≡ true
  unfolding loops
  loops-true w = some_in n (goes_round P n) w.0 w.1 (round-true ok w.2)

  -- the test fails: none does
  pub loops-no : loops P n ≡ false → (v : ℕ) → Reaches P v v → ⊥
  loops-no e v r = false≢true (sym e ∙ loops-true (v, from-lt P n ok r, r))

  -- and the other way round
  pub loops-false : ((v : ℕ) → Reaches P v v → ⊥) → loops P n ≡ false
  loops-false free = go (loops P n) refl
    where
      go : (t : Bool) → loops P n ≡ t → t ≡ false
      go true e = let w = loops-yes e in absurd (free w.0 w.2)
      go false e = refl
