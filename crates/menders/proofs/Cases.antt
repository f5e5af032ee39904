-- The definitions case by case: each test that the code makes picks one clause.
use Prim.Native.Nat.{ℕ, zero, suc, ◌+◌, ◌-◌, ◌≤◌, ◌<◌}
use mathlib.Core.Path.{◌≡◌, refl, ap, ◌∙◌}
use mathlib.Core.Logic.{◌⊎◌, ⊎_elim}
use mathlib.Core.Bool.{and-false}
use mathlib.Core.List.{List, [], ◌∷◌, ◌++◌}
use native.Mathlib.Omega.{arith}
use lib.ListN.{length, take, drop}
use borrow.Author.Tests.{le-leb, lt-leb, le-ltb, lt-ltb}
use Rattle.std.specs.Prelude.{Result, Ok, Err}
use Rattle.plain.proofs.Lists.{part-from}
use Rattle.refusals.specs.declared.Refusal.{Refusal}
use Rattle.refusals.specs.Numbers.{bad_parent, bad_execution, bytes_follow}
use Rattle.refusals.specs.Refusal.{refusal}
use Rattle.tables.specs.declared.TaskTable.{TaskTable}
use Rattle.tables.specs.Limits.{execution_max, least_execution}
use Rattle.numbers.specs.declared.Number.{Number}
use Rattle.numbers.specs.declared.Fault.{Fault}
use Rattle.numbers.specs.Number.{number, record_more}
use Rattle.records.specs.Nodes.{with_node}
use Rattle.menders.specs.declared.Spot.{Spot}
use Rattle.menders.specs.Taken.{Taken, Step, then_taken, then_of, taken_of, any_form, taken}
use Rattle.menders.specs.Listed.{whole_list, listed, parent_list}
use Rattle.menders.specs.Draft.{drawn, undrawn, no_more, nodes_taken}

-- what was taken, and what was refused
pub then-read : {A : Type 0} (out : Refusal → A) (step : Step) (more : ℕ → Spot → A) (t : Taken) → step ≡ Ok t → then_taken out step more ≡ more t.value t.spot
unfolding then_taken
then-read out step more t e = rw e

pub then-refused : {A : Type 0} (out : Refusal → A) (step : Step) (more : ℕ → Spot → A) (r : Refusal) → step ≡ Err r → then_taken out step more ≡ out r
unfolding then_taken
then-refused out step more r e = rw e

pub then-found : {T A : Type 0} (out : Refusal → A) (found : Result T Refusal) (more : T → A) (t : T) → found ≡ Ok t → then_of out found more ≡ more t
unfolding then_of
then-found out found more t e = rw e

pub then-none : {T A : Type 0} (out : Refusal → A) (found : Result T Refusal) (more : T → A) (r : Refusal) → found ≡ Err r → then_of out found more ≡ out r
unfolding then_of
then-none out found more r e = rw e

-- what the number reader found in the part that it was handed
module _ (s : List ℕ) (spot : Spot) where
  pub any-is : (r : Result Number Fault) → r ≡ number record_more (take (length s - spot.at) (drop spot.at s)) → taken_of (length s) spot r ≡ any_form s spot
  unfolding any_form
  any-is r e = ap (taken_of (length s) spot) (e ∙ ap (number record_more) (part-from spot.at s))

-- a number that has a fault; one that has none, outside its range and in it
pub taken_refused : (broken low high : ℕ) (s : List ℕ) (from : Spot) (r : Refusal) → any_form s from ≡ Err r → taken broken low high s from ≡ Err r
unfolding taken
taken_refused broken low high s from r e = then-refused _ _ _ _ e

module _ (broken low high : ℕ) (s : List ℕ) (from : Spot) (t : Taken) (e : any_form s from ≡ Ok t) where
  pub taken_out : (t.value < low) ⊎ (high < t.value) → taken broken low high s from ≡ Err (refusal broken from.at)
  unfolding taken
  taken_out h = then-read _ _ _ _ e ∙ ⊎_elim (λ l. simp (lt-leb low t.value l)) (λ g. simp (lt-leb t.value high g, and-false)) h

  pub taken_in : low ≤ t.value → t.value ≤ high → taken broken low high s from ≡ Ok t
  unfolding taken
  taken_in l g = then-read _ _ _ _ e ∙ simp (le-leb low t.value l, le-leb t.value high g)

-- no parent left, and one more
module _ (n : ℕ) (s : List ℕ) (spot : Spot) (given : List ℕ) where
  pub listed-none : (k : ℕ) → k ≤ 0 → listed k n s spot given ≡ whole_list given spot
  unfolding listed
  listed-none zero h = refl
  listed-none (suc k) h = absurd (omega arith)

  pub listed_more : (i k : ℕ) → i < k → listed (k - i) n s spot given ≡
      then_taken Err (taken bad_parent 0 (n - 1) s spot) λ p next. listed (k - (i + 1)) n s next (given ++ p ∷ [])
  unfolding listed
  listed_more i k h = let e : k - i ≡ suc (k - (i + 1)) = omega arith in rw (e, listed)

-- a byte follows, and none does
module _ (t : TaskTable) (x y : ℕ) (s : List ℕ) (spot : Spot) where
  pub some_more : spot.at < length s → no_more t x y s spot ≡ undrawn (refusal bytes_follow spot.at)
  unfolding no_more
  some_more h = simp (lt-ltb _ _ h)

  pub none_more : length s ≤ spot.at → no_more t x y s spot ≡ drawn t (record { padded = spot.padded; reordered = x; dropped = y })
  unfolding no_more
  none_more h = simp (le-ltb _ _ h)

-- of n nodes none is left, and one more is
module _ (i n : ℕ) (t : TaskTable) (x y : ℕ) (s : List ℕ) (spot : Spot) where
  pub nodes-none : n ≤ i → nodes_taken (n - i) i t x y s spot ≡ no_more t x y s spot
  unfolding nodes_taken
  nodes-none h = let e : n - i ≡ 0 = omega arith in rw (e, nodes_taken)

  pub nodes-more : (least : ℕ) → least ≡ least_execution t.edition → i < n → t.count ≡ n →
      nodes_taken (n - i) i t x y s spot ≡
      then_taken undrawn (taken bad_execution least execution_max s spot) λ e next.
      then_of undrawn (parent_list n s next) λ list.
      nodes_taken (n - (i + 1)) (i + 1) (with_node t i e list.set) (x + list.reordered) (y + list.dropped) s list.spot
  unfolding nodes_taken
  nodes-more least q h d =
      let e : n - i ≡ suc (n - (i + 1)) = omega arith in
      rw (e, nodes_taken, ← d, ← q)
