-- `judges::Task::judge_words` meets its contract: its tests are those of `judged`, in their order, and only behind them the words are written.
use mathlib.Core.Path.{refl, sym, ap, ◌∙◌}
use mathlib.Core.List.{List}
use Prim.Native.Nat.{ℕ}
use native.Mathlib.Omega.{arith}
use lib.Seq.{take-length}
use Rattle.planreaders.specs.Reading.{filled_with}
use Rattle.tables.specs.Cost.{costed}
use Rattle.judges.proofs.Tests.{other-id, other-count, is-broken, is-kept, number-some}
use Rattle.judges.proofs.Task.judge_words.Goals as goal
use Rattle.judges.proofs.Task.judge_words.Goals.{then-id-self-via-then-id-self, then-id-self-via-else-id-self+then-plan-self}

pub returns-then-id-self : goal.returns-then-id-self
returns-then-id-self c =
    let a = c.args in
    rw c.at.ensures
    (elim c.then-id-self.branch [
      | then-id-self-via-then-id-self w ↦ sym (other-id a.words.now (costed a.self.table.now a.self.cost) a.id a.plan.now w.if-id-self.true)
      | then-id-self-via-else-id-self+then-plan-self w ↦ sym (other-count a.words.now (costed a.self.table.now a.self.cost) a.id a.plan.now w.if-id-self.false w.if-plan-self.true)
    ])

pub returns-in-Some : goal.returns-in-Some
returns-in-Some c =
    let a = c.args in
    rw (c.at-in-Some.ensures, c.number.ensures)
    (sym (is-broken a.words.now (costed a.self.table.now a.self.cost) a.id a.plan.now c.if-id-self.false c.if-plan-self.false c.in-Some.ensures (number-some c.in-Some.rule)))

pub copy_words-requires : goal.copy_words-requires
copy_words-requires c = let p = c.requires in let q = p.1 in (omega arith, omega (arith, q.size, q.segments, q.nodes, p.2))

pub returns : goal.returns
returns c =
    let a = c.args in
    let front = c.copy_words.ensures ∙ ap (λ (x : List ℕ). filled_with x a.words.now) (take-length a.plan.now) in
    rw front (sym (is-kept a.words.now (costed a.self.table.now a.self.cost) a.id a.plan.now c.if-id-self.false c.if-plan-self.false c.in_default.ensures refl))
