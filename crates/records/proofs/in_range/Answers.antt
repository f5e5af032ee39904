-- `records::in_range` meets its contract: a refusal of the whole number goes straight out, and the two tests are those of `ranged_in`.
use Prim.Native.Nat.{◌≤◌}
use mathlib.Core.Path.{sym, ap, ◌∙◌}
use native.Mathlib.Omega.{arith}
use Rattle.std.specs.Prelude.{Err}
use Rattle.std.proofs.lemmas.Grind.{common_steps}
use Rattle.refusals.specs.declared.Refusal.{Refusal}
use Rattle.refusals.proofs.Out.{goes-out}
use Rattle.records.proofs.Cases.{ranged-refused, ranged-out, ranged-in}
use Rattle.records.proofs.in_range.Goals as goal

pub returns-in_err-read : goal.returns-in_err-read
returns-in_err-read c = λ more bytes is. goes-out _ _ c.from_residual.ensures.1 ∙ sym (ranged-refused _ _ _ _ _ _ _ (sym is ∙ c.in_err-read.was))

pub returns-then-not-contains : goal.returns-then-not-contains
returns-then-not-contains c = λ more bytes is. ap (λ (r : Refusal). Err r) c.of.ensures ∙ sym (ranged-out _ _ _ _ _ _ _ _ (sym is ∙ c.in_ok-read.was) (grind (arith, common_steps)))

pub returns : goal.returns
returns c = λ more bytes is.
    let least : c.args.low ≤ c.in_ok-read.read.value = grind (arith, common_steps) in
    let most : c.in_ok-read.read.value ≤ c.args.high = grind (arith, common_steps) in
    sym (ranged-in _ _ _ _ _ _ _ _ (sym is ∙ c.in_ok-read.was) least most)
