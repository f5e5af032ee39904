-- How the readers tell what they read.
use Rattle.std.specs.Prelude.{length, Result, Ok, Err}
use Rattle.plain.specs.At.{at}
use Rattle.refusals.specs.declared.Refusal.{Refusal}
use Rattle.records.specs.Step.{Step, read}
use Rattle.planreaders.specs.declared.PlanRecord.{PlanRecord}
use Rattle.planreaders.specs.Plan.{Several, PlanRead, on_plan}
use Rattle.planreaders.specs.Plan.Several.{several, refused}

-- a list: its count, and the place after it
abbrev pub list_step : Several → Step
list_step (several values next) = read (at values 0) next
list_step (refused r) = Err r

-- a plan record: its id, and how many words the plan has
abbrev pub told : PlanRead → Result PlanRecord Refusal
told p = on_plan Err (λ id words. Ok (record { id = id; words = length words })) p
