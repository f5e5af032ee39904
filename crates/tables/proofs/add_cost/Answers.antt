-- `tables::add_cost` meets its contract: the executions passed have their cost, those ahead are as they were, and past the nodes both are 0.
use mathlib.Core.Path.{◌≡◌, refl, sym, ap, ◌∙◌}
use mathlib.Core.List.{List, map}
use Prim.Native.Nat.{ℕ, ◌+◌, ◌≤◌, ◌<◌}
use native.Mathlib.Nat.{not-suc-le-zero}
use native.Mathlib.Omega.{arith}
use lib.ListN.{take, drop, length-map}
use lib.Seq.{ext_get_or}
use Rattle.std.proofs.lemmas.List.{get_or-take, get_or-drop, length-take-le, map-append, take-append-drop}
use Rattle.plain.specs.At.{at}
use Rattle.plain.proofs.Lists.{fill_more}
use Rattle.tables.specs.Cost.{with_cost}
use Rattle.tables.proofs.Cost.{at-cost}
use Rattle.tables.proofs.add_cost.Goals as goal

pub loop-execution-init : goal.loop-execution-init
loop-execution-init c = record { size = refl; done = λ w h. absurd (not-suc-le-zero h); rest = λ w h. refl }

pub with_cost-requires : goal.with_cost-requires
with_cost-requires c =
    let l = c.loop-execution in
    let front = length-take-le c.args.n c.args.executions.now (omega arith) in
    let h : l.execution-index < c.args.n = omega arith in
    rw (l.invariant.rest l.execution-index (omega arith), get_or-take c.args.n c.args.executions.now l.execution-index 0 h) (c.requires.1 l.execution-index)

pub loop-execution-preserved : goal.loop-execution-preserved
loop-execution-preserved c =
    let l = c.loop-execution in
    fill_more c.with_cost.result c.loop-execution-test.true (c.with_cost.ensures ∙ ap (with_cost c.args.cost) (l.invariant.rest l.execution-index (omega arith))) l.invariant

-- past the nodes nothing changes
idle : (X : List ℕ) (cost n : ℕ) → ((v : ℕ) → n ≤ v → at X v ≡ 0) → drop n X ≡ map (with_cost cost) (drop n X)
idle X cost n z = ext_get_or 0 (drop n X) (map (with_cost cost) (drop n X)) (sym (length-map (drop n X) (with_cost cost))) (λ k h.
    let e = get_or-drop n X k 0 ∙ z (n + k) (omega arith) in
    e ∙ sym (at-cost (drop n X) cost k ∙ ap (with_cost cost) e))

pub returns : goal.returns
returns c =
    let X = c.args.executions.now in
    let f = with_cost c.args.cost in
    let l = c.loop-execution in
    let Z = take c.args.n X in
    let run : l.execution-items ≡ map f Z = ext_get_or 0 l.execution-items (map f Z) (l.invariant.size ∙ sym (length-map Z f)) (λ k h. l.invariant.done k (omega (arith, h, l.invariant.size)) ∙ sym (at-cost Z c.args.cost k)) in
    rw (run, idle X c.args.cost c.args.n c.requires.2) (sym (map-append f Z (drop c.args.n X)) ∙ ap (map f) (take-append-drop c.args.n X))
