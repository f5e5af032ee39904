-- What the functions hand to each other: a table's run, in lists and numbers.
use Rattle.std.specs.Prelude.{◌≡◌, eqb, Bool, List, ℕ, ◌+◌, ◌*◌, ◌≤◌, Result, Ok, Err, ⊤, length, take}
use Rattle.plain.specs.Pick.{pick}
use Rattle.refusals.specs.Numbers.{long_path}
use Rattle.refusals.specs.declared.Refusal.{Refusal}
use Rattle.refusals.specs.declared.Answer.{Answer}
use Rattle.refusals.specs.Refusal.{refusal}
use Rattle.refusals.specs.Answer.{accepted, refused}
use Rattle.tables.specs.declared.TaskTable.{TaskTable}
use Rattle.segments.specs.Inner.Listed.{threads_of, enders_of}
use Rattle.diagrams.specs.Inner.Traced.{CutUp, Spanned}
use Rattle.sweeps.specs.declared.Trace.{Trace}
use Rattle.shares.specs.declared.Times.{Times}
use Rattle.plans.specs.declared.Planning.{Planning}
use Rattle.plans.specs.Diagram.{start, finish, work, longest, path, segment_count}
use Rattle.plans.specs.Words.{word_count, words_max, front_words}
use Rattle.plans.specs.Calls.{on_table}
use Rattle.plans.specs.Inner.Planned.{Planned}

-- acceptance, or the refusal of a table: 10, 11
abbrev pub outcome_of : TaskTable → Result ⊤ Refusal
outcome_of t = on_table Err (λ _. Ok tt) t

-- what an answer lets through: nothing where it refuses, and then it goes out as it is
abbrev pub passed : Answer → Result ⊤ Answer
passed a = pick (eqb a.refusal 0) (Ok tt) (Err a)

-- the outcome by two tests: 10 with its loop, 11, else the later rules' own
abbrev pub tested : (round : Bool) → Refusal → (long : Bool) → Answer → Result ⊤ Answer
tested round told long later = pick round (Err (refused told)) (pick long (Err (refused (refusal long_path 0))) (passed later))

-- "Planning returns that number of words"; an answer that refuses is told whole
abbrev pub told : Result Planning Answer → Answer
told (Ok p) = accepted p.words
told (Err a) = a

-- of a table that has a plan: its node count, its period and work, and its run cut up into s segments
pub record SegmentsOf (t : TaskTable) (n s : ℕ) (times : Times) (trace : Trace) : Type 0 where
  pub table : Planned t
  pub count : n ≡ t.count
  pub period : times.period ≡ t.period
  pub work : times.work ≡ work t
  pub cut_up : CutUp t.count (start t) (finish t) s times.path (threads_of trace.segments) (enders_of trace.segments) trace.finishes

-- of a table that has a plan: its node count, the cuts of its nodes, its executions, and words that begin with its head and its segments' triples
pub record NodesOf (t : TaskTable) (n : ℕ) (trace : Trace) (X words : List ℕ) : Type 0 where
  pub table : Planned t
  pub count : n ≡ t.count
  pub spanned : Spanned t.count (start t) (finish t) trace.first trace.last
  pub executions : X ≡ t.execution
  pub room : words_max ≤ length words
  pub front : take (3 + 3 * segment_count t) words ≡ front_words t

-- the words are those of the table's plan; work, path and longest execution are those of the table, which has a plan
pub record Totalled (t : TaskTable) (p : Planning) : Type 0 where
  pub table : Planned t
  pub words : p.words ≡ word_count (segment_count t) t.count
  pub work : p.work ≡ work t
  pub path : p.path ≡ path t
  pub longest : p.longest ≡ longest t
