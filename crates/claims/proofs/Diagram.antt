-- Where no node is reached from itself, starts and offsets are longest ways, which one equation determines; its cut is the one cutting of its
-- diagram; and a join, which finishes where it starts, runs nowhere and cuts nothing.
use mathlib.Core.Bool.{Bool, true, false}
use mathlib.Core.Path.{◌≡◌, refl, sym, ap, ◌∙◌}
use mathlib.Core.Logic.{⊎_elim}
use mathlib.Core.List.{List}
use Prim.Native.Nat.{ℕ, suc, ◌+◌, ◌≤◌, ◌<◌}
use native.Mathlib.Omega.{arith}
use Rattle.plain.specs.At.{at, tab}
use Rattle.plain.specs.Sums.{max_to}
use Rattle.plain.proofs.Lists.{at-tab}
use Rattle.plain.proofs.Sums.{le-max_to, max_to-is}
use Rattle.sets.specs.Greatest.{greatest}
use Rattle.tables.specs.declared.TaskTable.{TaskTable}
use Rattle.tables.specs.Inner.Plannable.{Plannable}
use Rattle.tables.proofs.Cost.{plannable}
use Rattle.ways.specs.Reaches.{Loops}
use Rattle.ways.specs.Closure.{loops}
use Rattle.ways.specs.Ways.{begins}
use Rattle.ways.proofs.Closure.{loops-yes}
use Rattle.ways.proofs.Ways.{begin-same, begin-rule, only-begin-rule}
use Rattle.ways.specs.Totals.{path_of}
use Rattle.segments.proofs.Segments.{segments-le, segment-up}
use Rattle.segments.proofs.Diagram.{idle-out, some-ends}
use Rattle.segments.proofs.Shares.{share-idle}
use Rattle.segments.proofs.Cutting.{is-cutting, one-cutting}
use Rattle.shares.specs.Density.{millionths}
use Rattle.shares.proofs.Densities.{idle}
use Rattle.plans.specs.Diagram.{finish, segment_count}
use Rattle.plans.specs.Shares.{over, numerator_of, deadline, offset, density}
use Rattle.plans.proofs.Table.{tidy, free, diagram}
use Rattle.claims.specs.Diagram.{Ruled, Join, cut_of, TablesTimed}

module _ (t : TaskTable) (r : Plannable t) (f : loops t.parents t.count ≡ false) where
  -- longest ways over weights that stand in a list
  ruled : (L : List ℕ) (W : ℕ → ℕ) → ((p : ℕ) → p < t.count → at L p ≡ W p) → Ruled t W (at (begins t.parents L t.count))
  ruled L W same = record {
    follows = λ v h. begin-rule t.parents L t.count (tidy r) (free r f) v h ∙ in_list (at (begins t.parents L t.count)) v;
    only = λ A o v h. sym (only-begin-rule t.parents L t.count (tidy r) (free r f) A (λ u l. o u l ∙ sym (in_list A u)) v h);
  }
    where
      -- the greatest is the same with the weights of the list
      in_list : (B : ℕ → ℕ) (v : ℕ) → greatest t.count (at t.parents v) (λ p. B p + at L p) ≡ greatest t.count (at t.parents v) (λ p. B p + W p)
      in_list B v = begin-same t.parents t.count (λ p. B p + at L p) (λ p. B p + W p) v (λ p k m. ap (λ (x : ℕ). B p + x) (same p k))

  -- offsets: the deadlines are the weights
  offsets : Ruled t (deadline t) (offset t)
  unfolding offset
  offsets = ruled (tab t.count (deadline t)) (deadline t) (at-tab t.count (deadline t))

  -- a join, by the laws of nodes without execution
  join : (v : ℕ) → v < t.count → at t.execution v ≡ 0 → Join t v
  unfolding deadline density
  join v h e = record {
    no-segment = λ j l m. let out = idle-out (diagram r f) j v l h e in omega arith;
    no-deadline = share-idle (diagram r f) (numerator_of t) v h e;
    no-density = ap (λ (x : ℕ). millionths x (over t) (deadline t v)) e ∙ idle (over t) (deadline t v);
  }

  -- a node that runs up to a segment's end has started before it
  run-cut : (j : ℕ) → j < segment_count t → (v : ℕ) × (v < t.count) × (1 ≤ at t.execution v) × (finish t v ≡ cut_of t (suc j))
  run-cut j l =
      let (v, h, s, e) = some-ends (diagram r f) j l in
      (v, h, omega (arith, segment-up t.count (finish t) j l, (diagram r f).ends v h), e)

-- of one node or more, some finish is the latest
some-latest : (n : ℕ) (F : ℕ → ℕ) → 1 ≤ n → (v : ℕ) × (v < n) × (F v ≡ max_to n F)
some-latest n F h = ⊎_elim
    (λ (z : max_to n F ≡ 0). let l = le-max_to n F 0 h in (0, h, omega arith))
    (λ (w : (k : ℕ) × (k < n) × (max_to n F ≡ F k)). (w.0, w.1, sym w.2))
    (max_to-is n F)

-- no loop, by the test
pub loop-free : {t : TaskTable} → Plannable t → (Loops t.parents t.count → ⊥) → loops t.parents t.count ≡ false
loop-free {t} r n = by (loops t.parents t.count) refl
  where
    by : (b : Bool) → loops t.parents t.count ≡ b → b ≡ false
    by true e = absurd (n (loops-yes t.parents t.count (tidy r) e))
    by false e = refl

-- the sentences, one by one
pub tables-timed : TablesTimed
unfolding path_of
tables-timed t range n =
    let r = plannable range in
    let f = loop-free r n in
    record {
      starts = ruled t r f t.execution (at t.execution) (λ p h. refl);
      finishes = (diagram r f).ends;
      path-latest = record { reached = some-latest t.count (finish t) (let some = r.some_runs.1 in omega arith); most = le-max_to t.count (finish t) };
      cuts = is-cutting (diagram r f);
      only-cuts = λ s c k. one-cutting (diagram r f) k;
      few-segments = segments-le t.count (finish t);
      offsets = offsets t r f;
      joins = join t r f;
      run-cuts = run-cut t r f;
    }
