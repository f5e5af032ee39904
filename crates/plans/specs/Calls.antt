-- Planning as one definition: 26 "before all others"; "Planning checks 16, then" the reader's refusals "as met, then 10, 11."
use Rattle.std.specs.Prelude.{List, ℕ, Result, Ok, Err, ⊤, ltb, length}
use Rattle.plain.specs.Pick.{pick}
use Rattle.refusals.specs.Numbers.{long_path, few_words, high_cost}
use Rattle.refusals.specs.declared.Refusal.{Refusal}
use Rattle.refusals.specs.Refusal.{refusal, on_outcome}
use Rattle.refusals.specs.Answer.{accepted, refused}
use Rattle.refusals.specs.After.{After}
use Rattle.tables.specs.declared.TaskTable.{TaskTable}
use Rattle.tables.specs.Limits.{cost_max}
use Rattle.tables.specs.Cost.{costed}
use Rattle.records.specs.Reading.{reading_of}
use Rattle.ways.specs.Closure.{loops}
use Rattle.rings.specs.Ring.{loop_of}
use Rattle.plans.specs.Diagram.{path, segment_count}
use Rattle.plans.specs.Words.{word_count, words_max, written}

-- the rules that planning, noting and admitting try first: 26, "cost above 255, before all others"; 16, "the lent plan has fewer than 387 words"
unfoldable pub before_reading : (words cost : ℕ) → Result ⊤ Refusal
before_reading words cost = pick (ltb cost_max cost) (Err (refusal high_cost 0)) (pick (ltb words words_max) (Err (refusal few_words 0)) (Ok tt))

-- refusal 10 of a table, with "the smallest node that is reached from itself" and "a loop through it"
abbrev pub loop_in : TaskTable → Refusal
loop_in t = loop_of t.parents t.count

-- 10 where "some node is reached from itself", 11 where "the path is longer than the period"; else `go`
unfoldable pub on_table : {A : Type 0} → (Refusal → A) → (TaskTable → A) → TaskTable → A
on_table refuse go t = pick (loops t.parents t.count) (refuse (loop_in t)) (pick (ltb t.period (path t)) (refuse (refusal long_path 0)) (go t))

-- the table of a record's task, with the cost: every rule after the reader's speaks of this one
abbrev pub task_of : List ℕ → (cost : ℕ) → TaskTable
task_of bytes cost = costed (reading_of bytes).table cost

-- the reader's refusals "as met, then 10, 11": the first refusal goes out by `refuse`, else the record's task goes on
unfoldable pub on_task : {A : Type 0} → (Refusal → A) → (TaskTable → A) → List ℕ → (cost : ℕ) → A
on_task refuse go bytes cost = on_outcome refuse (on_table refuse go (task_of bytes cost)) (reading_of bytes).outcome

-- "A refusal returns its number and place .. plan words .. stay untouched"
abbrev pub unplanned : List ℕ → Refusal → After (List ℕ)
unplanned words r = record { answer = refused r; lent = words }

-- "Planning returns that number of words"
abbrev pub planned : List ℕ → TaskTable → After (List ℕ)
planned words t = record { answer = accepted (word_count (segment_count t) t.count); lent = written t words }

-- planning the record `bytes` into `words`, each step with the cost
unfoldable pub plan_call : List ℕ → List ℕ → (cost : ℕ) → After (List ℕ)
plan_call bytes words cost = on_outcome (unplanned words) (on_task (unplanned words) (planned words) bytes cost) (before_reading (length words) cost)
