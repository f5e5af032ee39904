-- `graphsheets::put_relaxed` meets its contract: a table that is refused at the largest period has a loop, and for any other planning tells the path.
use mathlib.Core.Path.{◌≡◌, ap, ◌∙◌}
use mathlib.Core.Bool.{false}
use mathlib.Core.List.{List}
use Prim.Native.Nat.{ℕ}
use lib.ListN.{replicate}
use native.Mathlib.Omega.{arith}
use Rattle.ways.specs.Closure.{loops}
use Rattle.plans.specs.Diagram.{path}
use Rattle.plans.specs.Words.{words_max}
use Rattle.refusals.specs.After.{After}
use Rattle.sheets.specs.Lines.{refused_line}
use Rattle.sheets.proofs.Printing.{puts-same}
use Rattle.graphsheets.proofs.Relaxed.{path-free, costed-ready, path-high, relaxed-ready, refused-loop}
use Rattle.graphsheets.proofs.put_relaxed.Goals as goal
use Rattle.graphsheets.proofs.put_relaxed.Goals.{In-Ok}

pub plan_table-requires : goal.plan_table-requires
plan_table-requires c = (costed-ready c.requires.in_range, omega arith)

-- an accepted table has no loop, and its path is told
told : (c : In-Ok) → (loops c.args.table.now.parents c.args.table.now.count ≡ false) × (c.in-Ok.planning.path ≡ path c.args.table.now)
told c =
    let totals = c.in-Ok.ensures.totalled in
    (totals.table.free, totals.path ∙ path-free c.args.table.now)

pub overflow_mul-relaxed : goal.overflow_mul-relaxed
overflow_mul-relaxed c =
    let known = told (goal.at.overflow_mul-relaxed c).In-Ok in
    omega (arith, path-high c.requires.in_range known.0, known.1)

pub put_table-requires-clause-plannable : goal.put_table-requires-clause-plannable
put_table-requires-clause-plannable c =
    let known = told (goal.at.put_table-requires-clause-plannable c).In-Ok in rw known.1 (relaxed-ready c.requires.in_range known.0)

pub returns-in-Ok : goal.returns-in-Ok
returns-in-Ok c = rw (told (goal.at.returns-in-Ok c).In-Ok).1 at c.put_table.ensures

pub returns-in-Err : goal.returns-in-Err
returns-in-Err c =
    let zeros : List ℕ = replicate words_max 0 in
    let planned = rw c.accepted.ensures at c.in-Err.ensures.words_after in
    let told = refused-loop c.requires.in_range zeros c.requires.largest (ap (λ (x : After (List ℕ)). x.answer) planned) c.in-Err.ensures.refusing in
    puts-same (ap refused_line c.told_by.ensures ∙ told) c.put_refusal.ensures
