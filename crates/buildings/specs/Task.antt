-- What is counted of one record, "plan it alone".
use Rattle.std.specs.Prelude.{not, List, ℕ, eqb, ltb}
use Rattle.plain.specs.Pick.{one}
use Rattle.plain.specs.Sums.{sum_to, max_to}
use Rattle.tables.specs.declared.TaskTable.{TaskTable}
use Rattle.tables.specs.Limits.{million}
use Rattle.shares.specs.Heavy.{is_heavy, heavies}
use Rattle.plans.specs.Diagram.{work, path, segment_count, threads_in}
use Rattle.plans.specs.Shares.{density}
use Rattle.plans.specs.Calls.{on_task}

-- "nodes and all after them count accepted records only": f of the record's task, with the cost, or 0 where planning refuses the record
abbrev pub of_accepted : (TaskTable → ℕ) → (cost : ℕ) → List ℕ → ℕ
of_accepted f cost bytes = on_task (λ _. 0) f bytes cost

-- "refused by number": 1 where planning refuses the record by k, else 0
abbrev pub refused_by : (k cost : ℕ) → List ℕ → ℕ
refused_by k cost bytes = on_task (λ r. one (eqb r.number k)) (λ _. 0) bytes cost

-- "heavy and light segments": how many of a task's segments are heavy
abbrev pub heavy_in : TaskTable → ℕ
heavy_in t = heavies t.period (work t) (path t) (segment_count t) (threads_in t)

-- "heavy and light segments": how many of them are light, the ones that are not heavy
abbrev pub light_in : TaskTable → ℕ
light_in t = sum_to (segment_count t) (λ j. one (not (is_heavy t.period (work t) (path t) (threads_in t j))))

-- 1 for a task "with any density above one", else 0
abbrev pub dense_in : TaskTable → ℕ
dense_in t = one (ltb million (max_to t.count (density t)))
