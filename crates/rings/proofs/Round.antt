-- What remains is one round. Inside it the named node has a way back to itself, since a node is left out only where it keeps one; and inside no
-- smaller set, since a member that could be left out would have been when it was tried, and smaller sets have no more ways.
use mathlib.Core.Path.{◌≡◌, refl, ap, ◌∙◌}
use mathlib.Core.Logic.{⊎_elim}
use mathlib.Core.Bool.{Bool, true, false}
use mathlib.Core.List.{List}
use Prim.Native.Nat.{ℕ, zero, suc, ◌+◌, ◌≤◌, ◌<◌}
use native.Mathlib.Nat.{not-suc-le-zero, le_of_suc-le-suc, eq-or-lt_of_le, le_refl}
use native.Mathlib.Omega.{arith}
use native.Mathlib.Numerals.{add-one}
use native.Mathlib.Decide.{ℕ_discrete}
use Rattle.plain.specs.Pick.{pick}
use Rattle.plain.proofs.Lists.{lt-or-ge}
use Rattle.sets.specs.Member.{Member}
use Rattle.sets.specs.Rule.{set_of}
use Rattle.sets.specs.Without.{without_member}
use Rattle.sets.proofs.Bits.{not-mem}
use Rattle.sets.proofs.Rule.{bit_past}
use Rattle.sets.proofs.Without.{without-same, without_in, in_without}
use Rattle.ways.specs.Reaches.{Reaches}
use Rattle.ways.specs.Inner.Tidy.{Tidy}
use Rattle.ways.specs.Closure.{goes_round, loops}
use Rattle.ways.proofs.Closure.{round-yes, round-true, round-no}
use Rattle.rings.specs.Inside.{ReachesIn, edge, more, inside}
use Rattle.rings.specs.Ring.{named, unless_needed, ring_after, ring}
use Rattle.rings.specs.Round.{Smallest, Round}
use Rattle.rings.proofs.Inside.{inside-tidy, way_in, in-way, inside-wider, inside-all}
use Rattle.rings.proofs.Circle.{circle, there_and_back}
use Rattle.rings.proofs.Smallest.{First, smallest-first}

-- the set of all has nodes alone
all-nodes : (n x : ℕ) → Member x (set_of n (λ v. 1)) → x < n
all-nodes n x m = ⊎_elim (λ (l : x < n). l) (λ (h : n ≤ x). absurd (not-mem (bit_past (λ v. 1) (λ v. le_refl 1) n x h) m)) (lt-or-ge x n)

module _ {P : List ℕ} {n : ℕ} (ok : Tidy P n) (r : ℕ) where
  -- after the nodes below k: r has its way, and no node below k can be left out
  record Tried (k S : ℕ) : Type 0 where
    pub nodes : (x : ℕ) → Member x S → x < n
    pub round : Reaches (inside P n S) r r
    pub needed : (x : ℕ) → x < k → Member x S → (x ≡ r → ⊥) → Reaches (inside P n (without_member x S)) r r → ⊥

  module _ {k S : ℕ} (t : Tried k S) where
    -- k is left out: what was needed still is, in a smaller set
    out : Reaches (inside P n (without_member k S)) r r → Tried (suc k) (without_member k S)
    out w = record {
      nodes = λ x m. t.nodes x (without_in k x S m).0;
      round = w;
      needed = λ x l m other u. elim (ℕ_discrete x k) [
        | yes e ↦ not-mem (without-same k S) (rw e at m)
        | no q ↦ t.needed x (omega arith) (without_in k x S m).0 other (inside-wider ok _ _ (λ j i. let a = without_in x j (without_member k S) i in in_without x j S a.1 (without_in k j S a.0).0) u)
      ];
    }

    -- or stays
    stay : (Reaches (inside P n (without_member k S)) r r → ⊥) → Tried (suc k) S
    stay no_way = record {
      nodes = t.nodes;
      round = t.round;
      needed = λ x l m other u. ⊎_elim (λ (e : x ≡ k). no_way (rw e at u)) (λ (h : x < k). t.needed x h m other u) (eq-or-lt_of_le (le_of_suc-le-suc l));
    }

    -- as the definition says
    one_more : Tried (suc k) (unless_needed P n r k S)
    unfolding unless_needed
    one_more = go (goes_round (inside P n (without_member k S)) n r) refl
      where
        go : (b : Bool) → goes_round (inside P n (without_member k S)) n r ≡ b → Tried (suc k) (pick b (without_member k S) S)
        go true e = out (round-yes (inside-tidy P n (without_member k S)) e)
        go false e = stay (round-no (inside-tidy P n (without_member k S)) e)

  -- every node is tried
  tried : Reaches P r r → (k : ℕ) → Tried k (ring_after P n r k)
  unfolding ring_after
  tried w zero = record { nodes = all-nodes n; round = inside-all ok w; needed = λ x l. absurd (not-suc-le-zero l) }
  tried w (suc k) = one_more (tried w k)

  -- a way starts in the set
  from_in : {S v q : ℕ} → ReachesIn P S v q → Member v S
  from_in (edge e) = e.child
  from_in (more e w) = e.child

  -- in a set of members without x r has no way
  smaller : {S : ℕ} → Tried n S → (x T : ℕ) → Member x S → ((k : ℕ) → Member k T → Member k S) → (Member x T → ⊥) → ReachesIn P T r r → ⊥
  smaller {S} t x T m sub lacks w = elim (ℕ_discrete x r) [
    | yes e ↦ lacks (rw e (from_in w))
    | no other ↦ t.needed x (t.nodes x m) m other (inside-wider ok T (without_member x S) (λ k i. in_without x k S (λ e. lacks (rw e at i)) (sub k i)) (in-way P n T ok w))
  ]

  -- what remains
  pub one-round : Reaches P r r → Round P r (ring P n r)
  one-round w =
      let t = tried w n in
      let S = ring P n r in
      let round = way_in P n S t.round in
      record {
        member = from_in round;
        back = λ x m. (there_and_back round (smaller t) x m).1;
        out = λ x m. (there_and_back round (smaller t) x m).0;
        needed = smaller t;
        circle = circle round (smaller t);
      }

-- the set, node by node: at first all; a node is left out where r still goes round, and else stays
module _ (P : List ℕ) (n r : ℕ) where
  pub ring-none : set_of n (λ v. 1) ≡ ring_after P n r 0
  unfolding ring_after
  ring-none = refl

  module _ (k : ℕ) {S less : ℕ} (is : S ≡ ring_after P n r k) (out : less ≡ without_member k S) where
    -- as the definition has it
    tried-is : less ≡ without_member k (ring_after P n r k)
    tried-is = out ∙ ap (without_member k) is

    pub ring_out : goes_round (inside P n less) n r ≡ true → less ≡ ring_after P n r (k + 1)
    unfolding ring_after unless_needed
    ring_out e = rw (add-one k, tried-is, rw tried-is at e)

    pub ring-kept : goes_round (inside P n less) n r ≡ false → S ≡ ring_after P n r (k + 1)
    unfolding ring_after unless_needed
    ring-kept e = rw (add-one k, is, rw tried-is at e)

-- the node that is named
pub named-first : (P : List ℕ) (n : ℕ) → loops P n ≡ true → First n (goes_round P n) (named P n)
unfolding loops
named-first P n e = smallest-first n (goes_round P n) e

pub named-smallest : {P : List ℕ} {n : ℕ} → Tidy P n → loops P n ≡ true → Smallest P (named P n)
named-smallest {P} {n} ok e =
    let f = named-first P n e in
    record { here = round-yes ok f.here; before = λ v l w. f.before v l (round-true ok w) }
