-- `writers::try_number` meets its contract: its one test is that of `tried`.
use mathlib.Core.Path.{sym, ap, ◌∙◌}
use Prim.Native.Nat.{ℕ, ◌+◌, ◌≤◌}
use native.Mathlib.Omega.{arith}
use borrow.Author.Rules.{rules}
use Rattle.std.proofs.lemmas.Grind.{common_steps}
use Rattle.std.specs.Prelude.{Ok, Err}
use Rattle.refusals.specs.declared.Refusal.{Refusal}
use Rattle.numbers.specs.Inner.Word.{word_more}
use Rattle.numbers.proofs.Shortest.{shortest-length}
use Rattle.writers.proofs.Cases.{tried-out, tried-in}
use Rattle.writers.proofs.try_number.Goals as goal

pub overflow_add-next : goal.overflow_add-next
overflow_add-next c = omega (arith, shortest-length word_more c.args.value)

pub returns-then-not-contains : goal.returns-then-not-contains
returns-then-not-contains c = ap (λ (r : Refusal). Err r) c.at.ensures ∙ sym (tried-out _ _ _ _ _ (grind (arith, common_steps)))

pub returns : goal.returns
returns c = let h4 = c.if-not-contains.ensures in let e : c.args.value ≤ c.args.high = grind (arith, common_steps) in ap (λ (k : ℕ). Ok (c.args.place + k)) c.length_of.ensures ∙ sym (tried-in _ _ _ _ _ (search rules) e)
