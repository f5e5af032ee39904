-- The definitions case by case: each test that the code makes picks one clause.
use Prim.Native.Nat.{ℕ, zero, suc, ◌+◌, ◌-◌, ◌^◌, ◌≤◌, ◌<◌}
use mathlib.Core.Path.{◌≡◌, refl, ap, ◌∙◌}
use mathlib.Core.Logic.{◌⊎◌, ⊎_elim}
use mathlib.Core.Bool.{true, false, and-false}
use mathlib.Core.List.{List}
use native.Mathlib.Omega.{arith}
use lib.ListN.{length, take, drop}
use borrow.Author.Tests.{le-leb, lt-leb, le-ltb, lt-ltb}
use Rattle.refusals.specs.declared.Refusal.{Refusal}
use Rattle.refusals.specs.Numbers.{bad_execution, bad_parent, bytes_follow, none_runs}
use Rattle.tables.specs.declared.TaskTable.{TaskTable}
use Rattle.tables.specs.Limits.{execution_max, least_execution}
use Rattle.tables.specs.Runs.{all_zero}
use Rattle.plain.proofs.Lists.{part-from}
use Rattle.std.specs.Prelude.{Result, Err}
use Rattle.numbers.specs.declared.Number.{Number}
use Rattle.numbers.specs.declared.Fault.{Fault}
use Rattle.numbers.specs.Number.{number}
use Rattle.refusals.specs.Refusal.{refusal}
use Rattle.records.specs.Step.{Step, read, and_then}
use Rattle.records.specs.Ranged.{step_of, whole_in, ranged_in, ranged}
use Rattle.records.specs.Parents.{parents, parent_set}
use Rattle.records.specs.Nodes.{table_read, no_table, with_node, unless_all_zero, nothing_follows, nodes}

-- a step that read, and one that refused
pub then-read : {A : Type 0} (out : Refusal → A) (step : Step) (more : ℕ → ℕ → A) (v next : ℕ) → step ≡ read v next →
    and_then out step more ≡ more v next
unfolding and_then
then-read out step more v next e = rw e

pub then-refused : {A : Type 0} (out : Refusal → A) (step : Step) (more : ℕ → ℕ → A) (r : Refusal) → step ≡ Err r → and_then out step more ≡ out r
unfolding and_then
then-refused out step more r e = rw e

-- what the number reader found in the part that it was handed
pub whole_is : (more : ℕ) (s : List ℕ) (at : ℕ) (found : Result Number Fault) → found ≡ number more (take (length s - at) (drop at s)) →
    step_of (length s) at found ≡ whole_in more s at
unfolding whole_in
whole_is more s at found e = ap (step_of (length s) at) (e ∙ ap (number more) (part-from at s))

-- a number that is not whole; one that is, outside its range and in it
pub ranged-refused : (more broken low high : ℕ) (s : List ℕ) (at : ℕ) (r : Refusal) → whole_in more s at ≡ Err r →
    ranged_in more broken low high s at ≡ Err r
unfolding ranged_in
ranged-refused more broken low high s at r e = then-refused _ _ _ _ e

module _ (more broken low high : ℕ) (s : List ℕ) (at v next : ℕ) (e : whole_in more s at ≡ read v next) where
  pub ranged-out : (v < low) ⊎ (high < v) → ranged_in more broken low high s at ≡ Err (refusal broken at)
  unfolding ranged_in
  ranged-out h = then-read _ _ _ _ _ e ∙ ⊎_elim (λ l. simp (lt-leb low v l)) (λ g. simp (lt-leb v high g, and-false)) h

  pub ranged-in : low ≤ v → v ≤ high → ranged_in more broken low high s at ≡ read v next
  unfolding ranged_in
  ranged-in l g = then-read _ _ _ _ _ e ∙ simp (le-leb low v l, le-leb v high g)

-- no parent left, and one more; and where that one was read
module _ (n low set : ℕ) (s : List ℕ) (at : ℕ) where
  pub parents-none : (k : ℕ) → k ≤ 0 → parents k n low set s at ≡ read set at
  unfolding parents
  parents-none zero h = refl
  parents-none (suc k) h = absurd (omega arith)

  pub parents-more : (k : ℕ) → 0 < k → parents k n low set s at ≡
      and_then Err (ranged bad_parent low (n - 1) s at) λ p next.
      parents (k - 1) n (p + 1) (set + 2 ^ p) s next
  unfolding parents
  parents-more zero h = absurd (omega arith)
  parents-more (suc k) h = let e : suc k - 1 ≡ k = omega arith in rw e

  pub parents-next : (k p next : ℕ) → 0 < k → ranged bad_parent low (n - 1) s at ≡ read p next →
      parents k n low set s at ≡ parents (k - 1) n (p + 1) (set + 2 ^ p) s next
  parents-next k p next h e = parents-more k h ∙ then-read _ _ _ _ _ e

-- a byte follows; none does, and by the last test no node runs, or some does
module _ (t : TaskTable) (s : List ℕ) (at : ℕ) where
  pub some-follow : at < length s → nothing_follows t s at ≡ no_table (refusal bytes_follow at)
  unfolding nothing_follows
  some-follow h = simp (lt-ltb _ _ h)

  none-follow : length s ≤ at → nothing_follows t s at ≡ unless_all_zero t
  unfolding nothing_follows
  none-follow h = simp (le-ltb _ _ h)

  pub none-run : length s ≤ at → all_zero t.execution t.count ≡ true → nothing_follows t s at ≡ no_table (refusal none_runs 0)
  none-run h e = none-follow h ∙ rw e

  pub some-run : length s ≤ at → all_zero t.execution t.count ≡ false → nothing_follows t s at ≡ table_read t
  some-run h e = none-follow h ∙ rw e

-- of n nodes none is left, and one more is
module _ (i n : ℕ) (t : TaskTable) (s : List ℕ) (at : ℕ) where
  pub nodes-none : n ≤ i → nodes (n - i) i t s at ≡ nothing_follows t s at
  unfolding nodes
  nodes-none h = let e : n - i ≡ 0 = omega arith in rw (e, nodes)

  pub nodes-more : (least : ℕ) → least ≡ least_execution t.edition → i < n → t.count ≡ n → nodes (n - i) i t s at ≡
      and_then no_table (ranged bad_execution least execution_max s at) λ e at₁.
      and_then no_table (parent_set n s at₁) λ w at₂.
      nodes (n - (i + 1)) (i + 1) (with_node t i e w) s at₂
  unfolding nodes
  nodes-more least q h d = let e : n - i ≡ suc (n - (i + 1)) = omega arith in rw (e, nodes, ← d, q)
