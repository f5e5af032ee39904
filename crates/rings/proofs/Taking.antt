-- A walk that takes each node up once: what is met is reached inside the set, and where nothing is left to be taken up, what was met is closed
-- under edges inside the set, so it holds all that is reached.
use mathlib.Core.Path.{◌≡◌, sym, ap, ◌∙◌}
use mathlib.Core.Logic.{◌⊎◌, inl, inr, ⊎_elim}
use mathlib.Core.List.{List}
use Prim.Native.Nat.{ℕ, ◌-◌, ◌^◌, ◌<◌}
use native.Mathlib.Omega.{arith}
use native.Mathlib.Decide.{ℕ_discrete}
use lib.Bits.{bit_and, bit_or, and_le_l, and_le_r, or_lt}
use lib.Pow.{pow-lt}
use Rattle.plain.specs.At.{at}
use Rattle.sets.specs.Member.{bit, Member}
use Rattle.sets.specs.Size.{size_to}
use Rattle.sets.proofs.Bits.{bit-zero, mem-lt, mem-or, mem-and, and-mem, mem-or-cases, mem-or-l, mem-or-r, not-mem, put_other}
use Rattle.sets.proofs.Sizes.{size-put, size-full}
use Rattle.sets.proofs.Words.{missing, missed}
use Rattle.ways.specs.Reaches.{Reaches, edge, more}
use Rattle.ways.specs.Inner.Tidy.{Tidy}
use Rattle.ways.proofs.Reaches.{trans}
use Rattle.rings.specs.Inside.{inside}
use Rattle.rings.proofs.Inside.{edge_in, in-edge}

-- from r: which nodes were met, which of these were taken up, and which are left
pub record Taking (P : List ℕ) (n S r met taken left : ℕ) : Type 0 where
  pub met-word : met < 2 ^ 64
  pub taken_word : taken < 2 ^ 64
  pub left_word : left < 2 ^ 64
  pub within : (p : ℕ) → Member p met → Member p S
  pub reached : (p : ℕ) → Member p met → Member r S → Reaches (inside P n S) r p
  pub first : (p : ℕ) → Member p (at P r) → Member p S → Member p met
  pub closed : (v p : ℕ) → Member v taken → Member p (at P v) → Member p S → Member p met
  pub left_in : (k : ℕ) → Member k left → Member k met × (bit k taken ≡ 0)
  pub either : (k : ℕ) → Member k met → (Member k taken) ⊎ (Member k left)
  pub not_taken : bit r taken ≡ 0

-- p is left, and is not r
pub record Next (P : List ℕ) (n S r met taken left p : ℕ) : Type 0 where
  pub tidy : Tidy P n
  pub word : S < 2 ^ 64
  pub taking : Taking P n S r met taken left
  pub low : p < 64
  pub here : Member p left
  pub other : p ≡ r → ⊥

module _ {P : List ℕ} {n S r : ℕ} (ok : Tidy P n) (word : S < 2 ^ 64) where
  -- at first the parents of r
  pub taking-none : Taking P n S r (bit_and (at P r) S) 0 (bit_and (at P r) S)
  taking-none = record {
    met-word = omega (arith, and_le_r (at P r) S);
    taken_word = omega arith;
    left_word = omega (arith, and_le_r (at P r) S);
    within = λ p m. (mem-and p (at P r) S m).1;
    reached = λ p m s. let b = mem-and p (at P r) S m in edge (in-edge P n S ok (record { child = s; parent = b.1; edge = b.0 }));
    first = λ p m s. and-mem p (at P r) S m s;
    closed = λ v p m. absurd (not-mem (bit-zero v) m);
    left_in = λ k m. (m, bit-zero k);
    either = λ k m. inr m;
    not_taken = bit-zero r;
  }

-- it is taken up
module _ {P : List ℕ} {n S r met taken left p : ℕ} (next : Next P n S r met taken left p) where
  t : Taking P n S r met taken left
  t = next.taking

  abbrev with-parents : ℕ
  with-parents = bit_or met (bit_and (at P p) S)

  abbrev with-taken : ℕ
  with-taken = bit_or taken (2 ^ p)

  met-word : with-parents < 2 ^ 64
  met-word = or_lt 64 met (bit_and (at P p) S) t.met-word (omega (arith, next.word, and_le_r (at P p) S))

  taken_word : with-taken < 2 ^ 64
  taken_word = or_lt 64 taken (2 ^ p) t.taken_word (pow-lt next.low)

  -- what was met before, or is a parent
  parts : (k : ℕ) → Member k with-parents → (Member k met) ⊎ (Member k (at P p) × Member k S)
  parts k q = ⊎_elim (λ (b : Member k met). inl b) (λ (b : Member k (bit_and (at P p) S)). inr (mem-and k (at P p) S b)) (mem-or-cases k met (bit_and (at P p) S) q)

  pub taking-more : Taking P n S r with-parents with-taken (bit_and with-parents (2 ^ 64 - 1 - with-taken))
  taking-more = record {
    met-word = met-word;
    taken_word = taken_word;
    left_word = omega (arith, met-word, and_le_l with-parents (2 ^ 64 - 1 - with-taken));
    within = λ k q. ⊎_elim (λ (b : Member k met). t.within k b) (λ b. b.1) (parts k q);
    reached = λ k q s. ⊎_elim
        (λ (b : Member k met). t.reached k b s)
        (λ b. let up = (t.left_in p next.here).0 in trans (t.reached p up s) (edge (in-edge P n S next.tidy (record { child = t.within p up; parent = b.1; edge = b.0 }))))
        (parts k q);
    first = λ k e s. mem-or-l k met (bit_and (at P p) S) (t.first k e s);
    closed = λ v k q e s. elim (ℕ_discrete v p) [
      | yes z ↦ mem-or-r k met (bit_and (at P p) S) (and-mem k (at P p) S (rw z at e) s)
      | no z ↦ mem-or-l k met (bit_and (at P p) S) (t.closed v k (sym (put_other taken p v z) ∙ q) e s)
    ];
    left_in = λ k q. missing with-parents with-taken k (mem-lt 64 k _ (omega (arith, met-word, and_le_l with-parents (2 ^ 64 - 1 - with-taken))) q) taken_word q;
    either = λ k q. ⊎_elim
        (λ (b : Member k with-taken). inl b)
        (λ (z : bit k with-taken ≡ 0). inr (missed with-parents with-taken k (mem-lt 64 k with-parents met-word q) taken_word q z))
        (mem-or k with-taken);
    not_taken = put_other taken p r (λ q. next.other (sym q)) ∙ t.not_taken;
  }

  -- so one node fewer is not taken up
  pub taking-less : 64 - size_to 64 with-taken < 64 - size_to 64 taken
  taking-less = let e = size-put 64 taken p next.low (t.left_in p next.here).1 in let f = size-full 64 with-taken in omega arith

module _ {P : List ℕ} {n S r met taken left : ℕ} (t : Taking P n S r met taken left) where
  -- r is left: it was met
  pub taking-yes : Member r left → Reaches (inside P n S) r r
  taking-yes m = let up = (t.left_in r m).0 in t.reached r up (t.within r up)

  -- nothing is left: each node that is reached was met
  module _ (none : left ≡ 0) where
    taken-all : (k : ℕ) → Member k met → Member k taken
    taken-all k m = ⊎_elim (λ (b : Member k taken). b) (λ (b : Member k left). absurd (not-mem (ap (bit k) none ∙ bit-zero k) b)) (t.either k m)

    met_all : {v q : ℕ} → ((p : ℕ) → Member p (at P v) → Member p S → Member p met) → Reaches (inside P n S) v q → Member q met
    met_all f (edge {v} {p} e) = let i = edge_in P n S e in f p i.edge i.parent
    met_all f (more {v} {p} e w) = let i = edge_in P n S e in met_all (λ q. t.closed p q (taken-all p (f p i.edge i.parent))) w

    pub taking-no : Reaches (inside P n S) r r → ⊥
    taking-no w = not-mem t.not_taken (taken-all r (met_all t.first w))
