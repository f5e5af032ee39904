-- `judges::Task::broken_rule` meets its contract: the executions have their cost, and our own plan's words hold what the task's plan is held to.
use mathlib.Core.Path.{sym, ap, ◌∙◌}
use mathlib.Core.List.{List}
use Prim.Native.Nat.{ℕ}
use Rattle.tables.proofs.Cost.{at-cost, cost-none}
use Rattle.rules.specs.Rules.{first_broken}
use Rattle.rules.specs.Inner.Own.{held_by}
use Rattle.judges.proofs.Asked.{rules-in}
use Rattle.judges.proofs.Alike.{broken-own}
use Rattle.judges.proofs.Task.broken_rule.Goals as goal

pub add_cost-requires : goal.add_cost-requires
add_cost-requires c =
    let s = c.args.self in
    let r = c.requires.0.table.range in
    let paid = at-cost s.table.now.execution s.cost in
    (r.count-high, λ v. rw (paid v) at (r.run-high v), λ v h. cost-none s.cost _ (sym (paid v) ∙ r.run_past v h))

pub first_broken-requires : goal.first_broken-requires
first_broken-requires c = let p = c.requires in rw c.add_cost.ensures (rules-in p.0 p.1 p.2)

pub returns : goal.returns
returns c =
    let s = c.args.self in
    let t = s.table.now in
    c.first_broken.ensures
    ∙ ap (λ (X : List ℕ). first_broken (held_by s.own.now t.parents X t.period s.work) c.args.plan.now) c.add_cost.ensures
    ∙ broken-own c.requires.0 c.args.plan.now
