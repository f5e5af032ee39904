-- Judging a supplier's plan: 26; "the task record's first, 10 and 11 included"; "then 16" and the plan record's "as met"; "24 at 0"; "and 25".
use Rattle.std.specs.Prelude.{Bool, List, ℕ, eqb, ltb, length}
use Rattle.plain.specs.At.{at}
use Rattle.plain.specs.Pick.{pick}
use Rattle.plain.specs.Tests.{both}
use Rattle.refusals.specs.Numbers.{few_words, bad_plan, broken_rule, high_cost}
use Rattle.refusals.specs.Refusal.{refusal}
use Rattle.refusals.specs.After.{After}
use Rattle.tables.specs.declared.TaskTable.{TaskTable}
use Rattle.tables.specs.Limits.{cost_max}
use Rattle.segments.specs.Share.{share}
use Rattle.plans.specs.Diagram.{start, finish, work, segment_count, threads_in, length_in}
use Rattle.plans.specs.Words.{words_max}
use Rattle.plans.specs.Calls.{on_task}
use Rattle.planreaders.specs.Plan.{on_plan, plan_of}
use Rattle.planreaders.specs.Reading.{unread, filled}
use Rattle.rules.specs.Rules.{Held, first_broken}

-- what a task's plan is held to: "the task's own cut", its period and work, and its nodes
abbrev pub held_to : TaskTable → Held
held_to t = record {
  period = t.period;
  work = work t;
  count = t.count;
  parents = t.parents;
  execution = at t.execution;
  segments = segment_count t;
  threads = threads_in t;
  lengths = length_in t;
  share = share t.count (start t) (finish t);
}

-- the number of the first rule that a plan of the task breaks; 0 where it breaks none
abbrev pub broken_of : TaskTable → (plan : List ℕ) → ℕ
broken_of t plan = first_broken (held_to t) plan

-- "id or node count isn't the task's": both are
abbrev pub is_of : TaskTable → (id : ℕ) (plan : List ℕ) → Bool
is_of t id plan = both (eqb id t.id) (eqb (at plan 2) t.count)

-- 24 at 0; "25, a rule is broken, with the number of the first broken rule .. as its place"; else the id, and the plan's words are filled in
unfoldable pub judged : (words : List ℕ) → TaskTable → (id : ℕ) (plan : List ℕ) → After (List ℕ)
judged words t id plan =
    pick (is_of t id plan)
    (pick (eqb (broken_of t plan) 0) (filled words id plan) (unread words (refusal broken_rule (broken_of t plan))))
    (unread words (refusal bad_plan 0))

-- "then 16 (a short word buffer)", and the plan record's refusals "as met"
unfoldable pub judged_for : (plan words : List ℕ) → TaskTable → After (List ℕ)
judged_for plan words t = pick (ltb (length words) words_max) (unread words (refusal few_words 0)) (on_plan (unread words) (judged words t) (plan_of plan))

-- judging the plan record `plan` for the task record `bytes`, each step with the cost, into `words`
unfoldable pub judge_call : (bytes plan words : List ℕ) (cost : ℕ) → After (List ℕ)
judge_call bytes plan words cost = pick (ltb cost_max cost) (unread words (refusal high_cost 0)) (on_task (unread words) (judged_for plan words) bytes cost)
