-- `rules::rounded` meets its contract: it asks the definition's test of each node.
use Prim.Native.Nat.{◌≤◌}
use borrow.Author.Tests.{tests}
use Rattle.std.proofs.Common.{rules}
use Rattle.std.proofs.lemmas.Iterator.{serves_from_Range}
use Rattle.plain.specs.At.{at}
use Rattle.tables.specs.Limits.{over_max, run_max}
use Rattle.shares.specs.Words.{deadline_at}
use Rattle.shares.specs.Inner.Asked.{numerator_max}
use Rattle.rules.proofs.Asked.{over-high, deadline-low}
use Rattle.rules.proofs.Alls.{all-below}
use Rattle.rules.proofs.rounded.Goals as goal

pub all-requires-clause-callable : goal.all-requires-clause-callable
all-requires-clause-callable c =
    let asked = c.requires.by_index.3 in
    let over : at c.args.plan.now 0 ≤ over_max = over-high asked in
    serves_from_Range (λ x q k. search rules)
    (λ x lo hi.
    let deadline : deadline_at c.args.plan.now x ≤ numerator_max = deadline-low asked c.requires.plan_value x (rw c.nodes.ensures at hi) in
    let execution : at c.args.executions.now x ≤ run_max = asked.rules.executions x in
    let same = asked.rules.same_nodes in
    search (rules, same))

pub returns : goal.returns
returns c = all-below _ _ c.all.ensures.ran (rw c.nodes.ensures) (λ x b q k. search (rules, tests))
