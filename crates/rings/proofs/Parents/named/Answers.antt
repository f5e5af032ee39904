-- `rings::Parents::named` meets its contract: the nodes are tried upward, so the first that goes round is the smallest, and one does.
use mathlib.Core.Path.{◌≡◌, sym, ◌∙◌}
use mathlib.Core.Bool.{true}
use native.Mathlib.Nat.{not-suc-le-zero}
use native.Mathlib.Omega.{arith}
use borrow.Author.Count.{below_more}
use Rattle.plain.proofs.Picks.{true-false}
use Rattle.ways.specs.Closure.{goes_round}
use Rattle.rings.proofs.Inside.{round-all}
use Rattle.rings.proofs.Smallest.{one-first}
use Rattle.rings.proofs.Round.{named-first}
use Rattle.rings.proofs.Parents.named.Goals as goal
use Rattle.rings.proofs.Parents.named.Goals.{After-goes_round}

pub loop-v-init : goal.loop-v-init
loop-v-init c = λ w l. absurd (not-suc-le-zero l)

-- inside the set of all nodes just those go round that do
told : (c : After-goes_round) → (let a = c.args in c.goes_round.result ≡ goes_round a.self.sets.now a.self.n c.loop-v.v)
told c = let a = c.args in c.goes_round.ensures ∙ round-all c.args.self.tidy a.all c.loop-v.v c.requires.0

-- this one does
pub returns-then-goes_round : goal.returns-then-goes_round
returns-then-goes_round c =
    let a = c.args in
    one-first {n = a.self.n} {f = goes_round a.self.sets.now a.self.n}
    (record { within = c.loop-v-test.true; here = sym (told (goal.at.returns-then-goes_round c).After-goes_round) ∙ c.if-goes_round.true; before = c.loop-v.invariant })
    (named-first a.self.sets.now a.self.n c.requires.1)

-- or does not
pub loop-v-preserved : goal.loop-v-preserved
loop-v-preserved c =
    let a = c.args in
    below_more (λ w. goes_round a.self.sets.now a.self.n w ≡ true → ⊥) c.loop-v.v c.loop-v.invariant
    (λ g. true-false g (sym (told (goal.at.loop-v-preserved c).After-goes_round) ∙ c.if-goes_round.false))

-- one of them did
pub returns : goal.returns
returns c =
    let a = c.args in
    let f = named-first a.self.sets.now a.self.n c.requires.1 in
    absurd (c.loop-v.invariant _ (omega (arith, f.within, c.loop-v-test.false)) f.here)
