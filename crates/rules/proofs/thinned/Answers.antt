-- `rules::thinned` meets its contract: it asks the definition's test of each segment.
use Prim.Native.Nat.{◌*◌, ◌≤◌}
use borrow.Author.Tests.{tests}
use Rattle.std.proofs.Common.{rules}
use Rattle.std.proofs.lemmas.Iterator.{serves_from_Range}
use Rattle.plain.specs.At.{at}
use Rattle.shares.specs.Words.{threads_at, length_at}
use Rattle.shares.specs.Inner.Asked.{numerator_max}
use Rattle.rules.proofs.Asked.{piece-low, whole-low}
use Rattle.rules.proofs.Ceilings.{regrouped}
use Rattle.rules.proofs.Alls.{all-below}
use Rattle.rules.proofs.thinned.Goals as goal

pub all-requires-clause-callable : goal.all-requires-clause-callable
all-requires-clause-callable c =
    let asked = c.requires.3 in
    let whole : c.args.period * at c.args.plan.now 0 ≤ numerator_max = whole-low asked in
    serves_from_Range (λ x q k. search rules)
    (λ x lo hi. let piece : threads_at c.args.plan.now x * length_at c.args.plan.now x ≤ c.args.work = piece-low asked x (rw c.segments.ensures at hi) in search rules)

pub returns : goal.returns
returns c =
    let w = c.args.plan.now in
    all-below _ _ c.all.ensures.ran (rw c.segments.ensures) (λ x b q k. rw (← (regrouped (threads_at w x * length_at w x) (at w 0) c.args.period)) (search (rules, tests)))
