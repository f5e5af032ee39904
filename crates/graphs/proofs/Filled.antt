-- What the table of an accepted text is. Every number that goes into it fitted, every predecessor is a node, and what no task has filled is still 0; so it is a
-- table that the writer's ranges let through, with the caller's id and period in its head.
use Prim.Native.Nat.{ℕ, zero, suc, ◌+◌, ◌≤◌, ◌<◌}
use mathlib.Core.Path.{◌≡◌, refl, subst}
use mathlib.Core.Bool.{Bool, true, false}
use mathlib.Core.List.{List, [], ◌∷◌, ◌++◌}
use native.Mathlib.Omega.{arith}
use lib.Dec.{ltb}
use Rattle.std.specs.Prelude.{Ok}
use borrow.Author.Tests.{ltb-true, ltb-false}
use Rattle.plain.specs.Pick.{pick}
use Rattle.tables.specs.declared.TaskTable.{TaskTable}
use Rattle.tables.specs.Limits.{id_max, period_max, execution_max, least_execution}
use Rattle.tables.specs.Runs.{SomeRuns, all_zero}
use Rattle.tables.proofs.Runs.{runs-some}
use Rattle.records.specs.Nodes.{with_node}
use Rattle.records.specs.Reading.{headed}
use Rattle.records.proofs.Answers.{Filling, filling-none, filling-more}
use Rattle.listings.specs.Lists.{list_set}
use Rattle.listings.proofs.Below.{Below, below_none, below_more, set_below}
use Rattle.graphwords.specs.Words.{Word}
use Rattle.graphwords.specs.Decimal.{decimal_of}
use Rattle.graphs.specs.declared.Graph.{Graph}
use Rattle.graphs.specs.Expected.{edition, dummies, Due, Next, task_from, after}
use Rattle.graphs.specs.Expected.Due.{count, number, time, many, predecessor}
use Rattle.graphs.specs.Expected.Next.{word, done}
use Rattle.graphs.specs.Graph.{graph_of}
use Rattle.graphs.specs.Met.{Fits, Meets, Gives}
use Rattle.graphs.specs.Met.Meets.{begin, on}
use Rattle.graphs.specs.Met.Gives.{at-end, at-comment}
use Rattle.graphs.proofs.Cases.{Begun, begun}
use Rattle.graphs.proofs.Cases.Begun.{bad-id, bad-period, ranged}
use Rattle.graphs.proofs.Meets.{read-gives}

module _ (id period : ℕ) where
  -- a table whose first i tasks were read
  pub record Tasks (i : ℕ) (t : TaskTable) : Type 0 where
    pub filling : Filling i t
    pub edition-is : t.edition ≡ edition
    pub id-is : t.id ≡ id
    pub period-is : t.period ≡ period

  tasks-more : (i : ℕ) (t : TaskTable) (e : ℕ) (given : List ℕ) → i < t.count → e ≤ execution_max → Below t.count given → Tasks i t →
      Tasks (i + 1) (with_node t i e (list_set given))
  tasks-more i t e given h x b r =
      let least : least_execution t.edition ≤ e = rw r.edition-is (omega arith) in
      record {
        filling = filling-more i t e (list_set given) h (least, x) (set_below t.count given r.filling.size.1 b) r.filling;
        edition-is = r.edition-is;
        id-is = r.id-is;
        period-is = r.period-is;
      }

  -- what holds where something is expected: of the head, of the tasks before task i, and of what was read of task i
  Held : Next → Type 0
  Held (word (count x p)) = (x ≡ id) × (p ≡ period)
  Held (word (number t i)) = Tasks i t × (i < t.count)
  Held (word (time t i)) = Tasks i t × (i < t.count)
  Held (word (many t i e)) = Tasks i t × (i < t.count) × (e ≤ execution_max)
  Held (word (predecessor t i e left given)) = Tasks i t × (i < t.count) × (e ≤ execution_max) × Below t.count given
  Held (done t) = Tasks t.count t

  -- from a task on, and after a task's last predecessor
  task-held : (t : TaskTable) (i : ℕ) → i ≤ t.count → Tasks i t → Held (task_from t i)
  unfolding Held
  task-held t i l r = by (ltb i t.count) refl
    where
      by : (b : Bool) → ltb i t.count ≡ b → Held (pick b (word (number t i)) (done t))
      by true e = (r, ltb-true i t.count e)
      by false e = let q : i ≡ t.count = omega (arith, ltb-false i t.count e) in subst (λ (k : ℕ). Tasks k t) q r

  last-held : (t : TaskTable) (i e : ℕ) (given : List ℕ) → Tasks i t → i < t.count → e ≤ execution_max → Below t.count given →
      Held (task_from (with_node t i e (list_set given)) (i + 1))
  last-held t i e given r h x b = task-held (with_node t i e (list_set given)) (i + 1) (omega arith) (tasks-more i t e given h x b r)

  module _ (id-low : 1 ≤ id) (id-high : id ≤ id_max) (period-low : 1 ≤ period) (period-high : period ≤ period_max) where
    -- after a number that fits
    after-held : (due : Due) (v : ℕ) → Fits due v → Held (word due) → Held (after due v)
    unfolding Held
    after-held (count x p) v f (e, d) = task-held (headed edition x p (v + dummies)) 0 (omega arith) (record {
      filling =
          filling-none edition x p (v + dummies)
          ((omega arith, omega arith), (omega (arith, id-low, id-high), omega (arith, id-low, id-high)), (omega (arith, period-low, period-high), omega (arith, period-low, period-high)))
          (omega arith, omega (arith, f.1));
      edition-is = refl;
      id-is = e;
      period-is = d;
    })
    after-held (number t i) v f b = b
    after-held (time t i) v f b = (b.0, b.1, f.1)
    after-held (many t i e) zero f b = last-held t i e [] b.0 b.1 b.2 (below_none t.count)
    after-held (many t i e) (suc k) f b = (b.0, b.1, b.2, below_none t.count)
    after-held (predecessor t i e zero given) v f b = last-held t i e (given ++ v ∷ []) b.0 b.1 b.2 (below_more t.count given v (omega (arith, b.1, f.1)) b.3)
    after-held (predecessor t i e (suc left) given) v f b = (b.0, b.1, b.2, below_more t.count given v (omega (arith, b.1, f.1)) b.3)

    held : {text : List ℕ} {left : List Word} {next : Next} → Meets text id period left next → Held next
    unfolding Held
    held begin = (refl, refl)
    held (on {w = w} {due = due} m d f) = after-held due (decimal_of w.letters) f (held m)

    -- the table that is given
    given-tasks : {text : List ℕ} {t : TaskTable} → Gives text id period t → Tasks t.count t
    unfolding Held
    given-tasks (at-end m) = held m
    given-tasks (at-comment m c) = held m

-- and by the outcome: the caller's numbers were in range, and the table is the one that the words give
pub record Read (text : List ℕ) (id period : ℕ) (t : TaskTable) : Type 0 where
  pub gives : Gives text id period t
  pub tasks : Tasks id period t.count t
  pub runs : SomeRuns t

module _ (text : List ℕ) (id period : ℕ) (e : (graph_of text id period).outcome ≡ Ok tt) where
  pub graph-read : Read text id period (graph_of text id period).table
  graph-read = by (begun text id period) e
    where
      by : {g : Graph} → Begun text id period g → g.outcome ≡ Ok tt → Read text id period g.table
      by (bad-id o) q = cc
      by (bad-period l h o) q = cc
      by (ranged l h k g) q = let f = read-gives text id period q in record { gives = f.0; tasks = given-tasks id period l h k g f.0; runs = f.1 }

  pub graph-filling : Filling (graph_of text id period).table.count (graph_of text id period).table
  graph-filling = graph-read.tasks.filling

  pub graph-runs : all_zero (graph_of text id period).table.execution (graph_of text id period).table.count ≡ false
  graph-runs = let (v, h, r) = graph-read.runs in runs-some (graph_of text id period).table.execution (graph_of text id period).table.count v h r
