-- `Task::try_head` meets its contract: its four trials follow each other as in `head_tried`, the first refusal stays, and none of them goes far.
use mathlib.Core.Path.{ap, ◌∙◌}
use native.Mathlib.Omega.{arith}
use lib.ListN.{length}
use Rattle.refusals.specs.Numbers.{bad_id, bad_period, bad_count}
use Rattle.tables.specs.Limits.{id_max, period_max, count_max}
use Rattle.refusals.proofs.Out.{goes-out}
use Rattle.writers.specs.Inner.Trial.{Trial, tried}
use Rattle.writers.proofs.Cases.{tried-next}
use Rattle.writers.proofs.Task.try_head.Goals as goal

pub returns-in_err-id_at : goal.returns-in_err-id_at
unfolding tried
returns-in_err-id_at c = let a = c.args.self in
    goes-out _ _ c.from_residual.ensures.1
    ∙ ap (λ (r : Trial). tried bad_count 1 count_max (length a.executions.now) (tried bad_period 1 period_max a.period (tried bad_id 1 id_max a.id r))) c.in_err-id_at.ensures

pub try_number-requires-2 : goal.try_number-requires-2
try_number-requires-2 c = omega (arith, tried-next _ _ _ _ _ _ c.in_ok-id_at.ensures)

pub returns-in_err-period_at : goal.returns-in_err-period_at
unfolding tried
returns-in_err-period_at c = let a = c.args.self in
    goes-out _ _ c.from_residual-in_err-period_at.ensures.1
    ∙ ap (λ (r : Trial). tried bad_count 1 count_max (length a.executions.now) (tried bad_period 1 period_max a.period r))
    (c.in_err-period_at.ensures ∙ ap (tried bad_id 1 id_max a.id) c.in_ok-id_at.ensures)

pub try_number-requires-3 : goal.try_number-requires-3
try_number-requires-3 c = omega (arith, tried-next _ _ _ _ _ _ c.in_ok-id_at.ensures, tried-next _ _ _ _ _ _ c.in_ok-period_at.ensures)

pub returns-in_err-count_at : goal.returns-in_err-count_at
unfolding tried
returns-in_err-count_at c = let a = c.args.self in
    goes-out _ _ c.from_residual-in_err-count_at.ensures.1
    ∙ ap (tried bad_count 1 count_max (length a.executions.now))
    (c.in_err-count_at.ensures ∙ ap (tried bad_period 1 period_max a.period) (c.in_ok-period_at.ensures ∙ ap (tried bad_id 1 id_max a.id) c.in_ok-id_at.ensures))

pub try_number-requires-4 : goal.try_number-requires-4
try_number-requires-4 c =
    omega (arith, tried-next _ _ _ _ _ _ c.in_ok-id_at.ensures, tried-next _ _ _ _ _ _ c.in_ok-period_at.ensures, tried-next _ _ _ _ _ _ c.in_ok-count_at.ensures)
