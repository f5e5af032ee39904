-- `Reader::take_number` meets its contract: a refusal of the whole number goes straight out, and the test is that of `taken`.
use mathlib.Core.Path.{sym, ap, ◌∙◌}
use Prim.Native.Nat.{ℕ, ◌≤◌}
use borrow.Author.Rules.{rules}
use Rattle.std.specs.Prelude.{Result, Err}
use Rattle.std.proofs.lemmas.Grind.{common_steps}
use native.Mathlib.Omega.{arith}
use Rattle.refusals.specs.declared.Refusal.{Refusal}
use Rattle.refusals.proofs.Out.{goes-out}
use Rattle.menders.specs.Inner.Reader.{step_to}
use Rattle.menders.proofs.Cases.{taken_refused, taken_out, taken_in}
use Rattle.menders.proofs.Reader.take_number.Goals as goal

pub returns-in_err-value-clause-step : goal.returns-in_err-value-clause-step
returns-in_err-value-clause-step c =
    ap (λ (o : Result ℕ Refusal). step_to o c.take_any_form.new.self.spot) (goes-out _ _ c.from_residual.ensures.1) ∙ sym (taken_refused _ _ _ _ _ _ (sym c.in_err-value.ensures.step))

pub returns-then-not-contains-clause-step : goal.returns-then-not-contains-clause-step
returns-then-not-contains-clause-step c =
    ap (λ (r : Refusal). Err r) c.at.ensures ∙ sym (taken_out _ _ _ _ _ (record { value = c.in_ok-value.value; spot = c.take_any_form.new.self.spot }) (sym c.in_ok-value.ensures.step) (grind (arith, common_steps)))

pub returns-clause-step : goal.returns-clause-step
returns-clause-step c = let h = c.if-not-contains.ensures in let e : c.in_ok-value.value ≤ c.args.high = grind (arith, common_steps) in
    sym (taken_in _ _ _ _ _ (record { value = c.in_ok-value.value; spot = c.take_any_form.new.self.spot }) (sym c.in_ok-value.ensures.step) (search rules) e)
