-- A set from which no member can be left out is one circle. A way becomes a walk that meets no node twice, since the rest of a walk from a node
-- that is met again is enough; and the walk meets every member, since it would else lie inside the set without that member. So each member cuts
-- it into a way there and a way back.
use mathlib.Core.Path.{◌≡◌, refl, sym, ap, ◌∙◌}
use mathlib.Core.Logic.{◌⊎◌, inl, inr, ⊎_elim}
use mathlib.Core.List.{List}
use Prim.Native.Nat.{ℕ, zero, suc, ◌+◌, ◌-◌, ◌<◌, suc-le-suc}
use native.Mathlib.Nat.{not-suc-le-zero, le_of_suc-le-suc, eq-or-lt_of_le, le_refl, add-zero, add-suc}
use native.Mathlib.Omega.{arith}
use native.Mathlib.Decide.{ℕ_discrete}
use Rattle.sets.specs.Member.{Member}
use Rattle.sets.specs.Without.{without_member}
use Rattle.sets.proofs.Without.{without_in, in_without}
use Rattle.rings.specs.Inside.{EdgeIn, ReachesIn, edge, more}
use Rattle.rings.specs.Round.{Circle}

-- x is met before the end, or is not
abbrev Met : (ℕ → ℕ) → (size x : ℕ) → Type 0
Met met size x = (i : ℕ) × (i < size) × (met i ≡ x)

abbrev Unmet : (ℕ → ℕ) → (size x : ℕ) → Type 0
Unmet met size x = (i : ℕ) → i < size → met i ≡ x → ⊥

met-or-not : (met : ℕ → ℕ) (size x : ℕ) → (Met met size x) ⊎ (Unmet met size x)
met-or-not met zero x = inr (λ i l. absurd (not-suc-le-zero l))
met-or-not met (suc n) x = elim (ℕ_discrete (met n) x) [
  | yes e ↦ inl (n, le_refl (suc n), e)
  | no new ↦ ⊎_elim
      (λ (m : Met met n x). inl (m.0, omega (arith, m.1), m.2))
      (λ (none : Unmet met n x). inr (λ i l e. ⊎_elim (λ (q : i ≡ n). new (rw q at e)) (λ (h : i < n). none i h e) (eq-or-lt_of_le (le_of_suc-le-suc l))))
      (met-or-not met n x)
]

-- v, and then the nodes of met
abbrev after : ℕ → (ℕ → ℕ) → ℕ → ℕ
after v met zero = v
after v met (suc i) = met i

-- a walk by edges inside the set, from v to q, that meets no node twice before its end
record Walk (P : List ℕ) (S v q size : ℕ) : Type 0 where
  pub met : ℕ → ℕ
  pub begins : met 0 ≡ v
  pub ends : met size ≡ q
  pub steps : (i : ℕ) → i < size → EdgeIn P S (met i) (met (suc i))
  pub once : (i j : ℕ) → i < size → j < size → met i ≡ met j → i ≡ j

module _ {P : List ℕ} {S : ℕ} where
  -- no step
  stand : (q : ℕ) → Walk P S q q 0
  stand q = record { met = λ i. q; begins = refl; ends = refl; steps = λ i l. absurd (not-suc-le-zero l); once = λ i j l. absurd (not-suc-le-zero l) }

  module _ {p q n : ℕ} (w : Walk P S p q n) {v : ℕ} where
    -- one step more, from a node that is not met
    longer : EdgeIn P S v p → Unmet w.met n v → Walk P S v q (suc n)
    longer e new = record { met = after v w.met; begins = refl; ends = w.ends; steps = steps; once = once }
      where
        steps : (i : ℕ) → i < suc n → EdgeIn P S (after v w.met i) (w.met i)
        steps zero l = rw w.begins e
        steps (suc i) l = w.steps i (le_of_suc-le-suc l)

        once : (i j : ℕ) → i < suc n → j < suc n → after v w.met i ≡ after v w.met j → i ≡ j
        once zero zero l h same = refl
        once zero (suc j) l h same = absurd (new j (le_of_suc-le-suc h) (sym same))
        once (suc i) zero l h same = absurd (new i (le_of_suc-le-suc l) same)
        once (suc i) (suc j) l h same = ap suc (w.once i j (le_of_suc-le-suc l) (le_of_suc-le-suc h) same)

    -- the rest, from a node that is met
    rest : (m : Met w.met n v) → Walk P S v q (suc (n - suc m.0))
    rest m =
        let k = m.0 in
        record {
          met = λ i. w.met (k + i);
          begins = rw (add-zero k) m.2;
          ends = (let e : k + suc (n - suc k) ≡ n = omega arith in rw e w.ends);
          steps = λ i h. rw (add-suc k i) (w.steps (k + i) (omega arith));
          once = λ i j h g same. let e = w.once (k + i) (k + j) (omega arith) (omega arith) same in omega arith;
        }

    -- an edge before a walk
    step : EdgeIn P S v p → (m : ℕ) × Walk P S v q (suc m)
    step e = ⊎_elim (λ (m : Met w.met n v). (_, rest m)) (λ new. (_, longer e new)) (met-or-not w.met n v)

  -- a way as a walk
  walk : {v q : ℕ} → ReachesIn P S v q → (n : ℕ) × Walk P S v q (suc n)
  walk (edge {v} {p} e) = step (stand p) e
  walk (more e w) = step (walk w).1 e

  -- and back
  way : (n : ℕ) (met : ℕ → ℕ) → ((i : ℕ) → i < suc n → EdgeIn P S (met i) (met (suc i))) → ReachesIn P S (met 0) (met (suc n))
  way zero met steps = edge (steps 0 (le_refl 1))
  way (suc n) met steps = more (steps 0 (omega arith)) (way n (λ i. met (suc i)) (λ i l. steps (suc i) (suc-le-suc l)))

  walk-way : {v q n : ℕ} → Walk P S v q (suc n) → ReachesIn P S v q
  walk-way {n = n} w = rw (w.begins, w.ends) at (way n w.met w.steps)

module _ {P : List ℕ} {S r n : ℕ} (w : Walk P S r r (suc n)) where
  -- a closed walk that does not meet x is a way inside the set without x
  without-met : (x : ℕ) → Unmet w.met (suc n) x → ReachesIn P (without_member x S) r r
  without-met x new = rw (w.begins, w.ends) at (way n w.met inner)
    where
      next : (i : ℕ) → i < suc n → w.met (suc i) ≡ x → ⊥
      next i l e = ⊎_elim
          (λ (q : suc i ≡ suc n). new 0 (omega arith) (w.begins ∙ sym w.ends ∙ ap w.met (sym q) ∙ e))
          (λ (h : suc i < suc n). new (suc i) h e)
          (eq-or-lt_of_le l)

      inner : (i : ℕ) → i < suc n → EdgeIn P (without_member x S) (w.met i) (w.met (suc i))
      inner i l =
          let s = w.steps i l in
          record { edge = s.edge; child = in_without x (w.met i) S (new i l) s.child; parent = in_without x (w.met (suc i)) S (next i l) s.parent }

  -- one that meets x is a way there, and then a way back
  there : {x : ℕ} → Met w.met (suc n) x → ReachesIn P S r x
  there (zero, l, e) = rw (sym e ∙ w.begins) (walk-way w)
  there (suc i, l, e) = rw (w.begins, e) at (way i w.met (λ j h. w.steps j (omega arith)))

-- where no member can be left out, the walk meets them all
module _ {P : List ℕ} {r S : ℕ} (round : ReachesIn P S r r)
    (needed : (x T : ℕ) → Member x S → ((k : ℕ) → Member k T → Member k S) → (Member x T → ⊥) → ReachesIn P T r r → ⊥) where
  once-round : Walk P S r r (suc (walk round).0)
  once-round = (walk round).1

  meets : (x : ℕ) → Member x S → Met once-round.met (suc (walk round).0) x
  meets x m = ⊎_elim
      (λ (found : Met once-round.met (suc (walk round).0) x). found)
      (λ new. absurd (needed x (without_member x S) m (λ k i. (without_in x k S i).0) (λ i. (without_in x x S i).1 refl) (without-met once-round x new)))
      (met-or-not once-round.met (suc (walk round).0) x)

  pub circle : Circle P r S
  circle = record {
    size = suc (walk round).0;
    met = once-round.met;
    begins = once-round.begins;
    closes = once-round.ends;
    waits = λ i l. (once-round.steps i l).edge;
    member = λ i l. (once-round.steps i l).child;
    all = meets;
    once = once-round.once;
  }

  pub there_and_back : (x : ℕ) → Member x S → ReachesIn P S r x × ReachesIn P S x r
  there_and_back x m = (there once-round (meets x m), walk-way (rest once-round (meets x m)))
