-- The verdicts and the unrounded fractions of all standing nodes: each node's density is its exact one in millionths rounded up, and S and M are
-- the sum and the largest over the tables, one table after another. A table's greatest quotient is that over its smallest deadline numerator, so that
-- the greatest over the tables is the one over the shortest deadline of all nodes.
use mathlib.Core.Path.{◌≡◌, refl, sym, ◌∙◌}
use mathlib.Core.List.Memᴰ
use mathlib.Core.List.{List, [], ◌∷◌}
use Prim.Native.Nat.{ℕ, ◌<◌}
use native.Mathlib.Omega.{arith}
use lib.ListN.{length, length-append}
use Rattle.tables.specs.declared.TaskTable.{TaskTable}
use Rattle.shares.proofs.Smallest.{smallest-density}
use Rattle.plans.specs.Shares.{over, deadline, shortest, density}
use Rattle.plans.specs.Accepted.{Accepted}
use Rattle.plans.proofs.Table.{plans-accepted}
use Rattle.plans.proofs.Kept.{kept}
use Rattle.boards.specs.Nodes.{listed}
use Rattle.boards.proofs.Fractions.{RoundedUp, Rounded, rounded-append}
use Rattle.boards.proofs.Fractions.Rounded.{none}
use Rattle.overheads.specs.ToEnd.{deadline_in}
use Rattle.overheads.proofs.Overhead.{quotient, Greatest, greatest-as, greatest-append, greatest-listed}
use Rattle.overheads.proofs.Overhead.Greatest.{none as none-greatest}
use Rattle.boards.proofs.Nodes.{rounded-listed, length-listed}
use Rattle.admissions.specs.Admission.{row_of}
use Rattle.claims.specs.Plan.{exact_of, exact_deadline}
use Rattle.claims.specs.Day.{Among, of_all, all_nodes, longest_run}
use Rattle.claims.proofs.Plan.{exact}
use Rattle.claims.proofs.Standing.{sums_of, max_of}

-- a node's density, rounded up
rounded-node : {t : TaskTable} → Accepted t → (v : ℕ) → v < t.count → RoundedUp (exact_of t v) (density t v)
rounded-node ok v h = (exact (plans-accepted ok) v h).rounded

-- all standing nodes
pub rounded-tables : (ts : List TaskTable) → ((t : TaskTable) → Among t ts → Accepted t) → Rounded (all_nodes ts) (sums_of (λ r. r.sum) ts) (max_of (λ r. r.largest) ts)
unfolding of_all sums_of max_of
rounded-tables [] ok = none
rounded-tables (t ∷ ts) ok =
    rounded-append (rounded-listed t.count (exact_of t) (density t) (rounded-node (ok t (Memᴰ.head refl)))) (rounded-tables ts (λ u m. ok u (Memᴰ.tail m)))

-- how many there are
pub length-nodes : (ts : List TaskTable) → length (all_nodes ts) ≡ sums_of (λ r. r.nodes) ts
unfolding of_all sums_of
length-nodes [] = refl
length-nodes (t ∷ ts) = length-append (listed t.count (exact_of t)) (all_nodes ts) ∙ (let ih = length-nodes ts in let first = length-listed t.count (exact_of t) in omega arith)

-- the longest execution, over the tables' rows
pub longest-tables : (ts : List TaskTable) → longest_run ts ≡ max_of (λ r. r.longest) ts
unfolding longest_run max_of
longest-tables [] = refl
longest-tables (t ∷ ts) = rw (longest-tables ts)

-- x over each of a table's deadlines, and over its smallest one
table-greatest : {t : TaskTable} → Accepted t → (x : ℕ) → Greatest x (listed t.count (exact_deadline t)) (quotient x (deadline_in (row_of t)))
unfolding shortest
table-greatest {t} ok x =
    let some = (kept (plans-accepted ok)).over-some in
    greatest-as (greatest-listed x t.count (exact_deadline t) (λ v h l. some)) (sym (smallest-density x (over t) t.count (deadline t) some))

-- and over those of all standing nodes
pub greatest-tables : (x : ℕ) (ts : List TaskTable) → ((t : TaskTable) → Among t ts → Accepted t) → Greatest x (of_all exact_deadline ts) (max_of (λ r. quotient x (deadline_in r)) ts)
unfolding of_all max_of
greatest-tables x [] ok = none-greatest
greatest-tables x (t ∷ ts) ok = greatest-append (table-greatest (ok t (Memᴰ.head refl)) x) (greatest-tables x ts (λ u m. ok u (Memᴰ.tail m)))
