-- What noting comes to by the tests that it makes, in their order, and where admitting makes the same ones, that too.
use Rattle.std.proofs.Common.{◌≡◌, sym, ap, ◌∙◌, Bool, true, false, List, ℕ, ◌<◌, length}
use Rattle.std.specs.Prelude.{Result, Ok, Err, ⊤}
use lib.Dec.{ltb}
use Rattle.plain.specs.Pick.{pick}
use Rattle.refusals.specs.Numbers.{long_path, unsound_board}
use Rattle.refusals.specs.declared.Refusal.{Refusal}
use Rattle.refusals.specs.declared.Answer.{Answer}
use Rattle.refusals.specs.Refusal.{refusal, refusal_of}
use Rattle.refusals.specs.Answer.{accepted, refused}
use Rattle.tables.specs.declared.TaskTable.{TaskTable}
use Rattle.ways.specs.Closure.{loops}
use Rattle.plans.specs.Diagram.{path, segment_count}
use Rattle.plans.specs.Words.{word_count, written}
use Rattle.plans.specs.Calls.{loop_in, before_reading, on_table, on_task}
use Rattle.boards.specs.declared.Row.{Row}
use Rattle.boards.specs.declared.Change.{Change}
use Rattle.boards.specs.Row.{rows_max}
use Rattle.boards.specs.Sound.{is_sound}
use Rattle.boards.specs.Find.{free_at}
use Rattle.admissions.specs.Admission.{Admission, row_of, not_admitted, entered, noting}
use Rattle.admissions.specs.Inner.NoBoard.{no_board}
use Rattle.plans.specs.Inner.Planned.{Planned}
use Rattle.plans.specs.Inner.Drawn.{passed}
use Rattle.plans.specs.Inner.Table.{table_plan}
use Rattle.plans.proofs.Tests.{rules, passed-out, told-out, refused-out, told-in, on_fits}
use Rattle.admissions.proofs.Place.{found, place-refused, place-accepted, later_of, later-refused}

-- a task with a plan, by what the two places tell
module _ (rows : List Row) (words : List ℕ) (t : TaskTable) where
  -- 12, 13
  pub stays_out : {r : Refusal} → found rows (row_of t) ≡ Err r → entered rows words t ≡ not_admitted words r
  unfolding entered
  stays_out e = rw (place-refused rows (row_of t) e)

  -- neither
  pub goes_in : {a : ℕ} → found rows (row_of t) ≡ Ok a
      → (entered rows words t ≡ record { change = Ok (record { at = a; row = row_of t }); words = written t words }) × (a ≡ free_at rows) × (a < rows_max)
  unfolding entered
  goes_in e = let p = place-accepted rows (row_of t) e in (rw p.0, p.1, p.2)

-- where the tests refuse a table, however a refusal is told, what goes by the same tests is refused with that too, if a task that has a plan is refused
-- wherever the later rules refuse
pub on-told : {A E : Type 0} (tell : Refusal → E) (refuse : E → A) (go : TaskTable → A) (t : TaskTable) (later : Result ⊤ E) {x : E} → (later ≡ Err x → go t ≡ refuse x)
    → on_table (λ r. Err (tell r)) (λ _. later) t ≡ Err x → on_table (λ r. refuse (tell r)) go t ≡ refuse x
unfolding on_table
on-told {A} {E} tell refuse go t later {x} out = by (loops t.parents t.count) (ltb t.period (path t))
  where
    by : (b c : Bool) → ◌≡◌ {A = Result ⊤ E} (pick b (Err (tell (loop_in t))) (pick c (Err (tell (refusal long_path 0))) later)) (Err x)
        → pick b (refuse (tell (loop_in t))) (pick c (refuse (tell (refusal long_path 0))) (go t)) ≡ refuse x
    by true c e = ap refuse (let q : tell (loop_in t) ≡ x = cc in q)
    by false true e = ap refuse (let q : tell (refusal long_path 0) ≡ x = cc in q)
    by false false e = out e

-- the same of a later rule's outcome
pub on-later : {A : Type 0} (refuse : Refusal → A) (go : TaskTable → A) (t : TaskTable) (later : Result ⊤ Refusal) {r : Refusal} → (later ≡ Err r → go t ≡ refuse r)
    → on_table Err (λ _. later) t ≡ Err r → on_table refuse go t ≡ refuse r
on-later refuse go t later = on-told (λ (r : Refusal). r) refuse go t later

-- and of its answer, where what is done with a task that has a plan is refused by that answer, whatever refused the table
pub on-answer : {A : Type 0} (refuse : Refusal → A) (go : TaskTable → A) (t : TaskTable) (later : Answer) {a : Answer} → ((later.refusal ≡ 0 → ⊥) → go t ≡ refuse (refusal_of later))
    → rules t later ≡ Err a → on_table refuse go t ≡ refuse (refusal_of a)
on-answer refuse go t later out =
    on-told refused (λ (x : Answer). refuse (refusal_of x)) go t (passed later) λ p. let q = passed-out later p in out q.0 ∙ ap (λ (x : Answer). refuse (refusal_of x)) q.1

-- a table by what planning it beside some words left, where the answer to its place was the later one; `enter` is what is done with a task that has a
-- plan
module _ (words beside : List ℕ) (t : TaskTable) (enter : TaskTable → Admission) (later : Answer) {a : Answer} {w : List ℕ} (left : record { answer = a; lent = w } ≡ table_plan later beside t) where
  -- 10 to 13, where `enter` leaves everything if that answer is a refusal: the words beside are as they were
  pub table-out : ((later.refusal ≡ 0 → ⊥) → enter t ≡ not_admitted words (refusal_of later)) → (a.refusal ≡ 0 → ⊥) → (on_table (not_admitted words) enter t ≡ not_admitted words (refusal_of a)) × (w ≡ beside)
  table-out out n = let p = told-out later beside t n left in (on-answer (not_admitted words) enter t later out p.0, p.1)

  -- none of them: the plan is written, and the task enters
  pub table-in : a.refusal ≡ 0 → Planned t
      → (later.refusal ≡ 0) × (a ≡ accepted (word_count (segment_count t) t.count)) × (w ≡ written t beside) × (on_table (not_admitted words) enter t ≡ enter t)
  table-in z ok = let p = told-in later beside t z ok left in (p.0, p.1, p.2, on_fits (not_admitted words) enter t ok.free ok.fits)

-- `table-out` of `refused r`, by what was told of the table's place
module _ (words beside : List ℕ) (t : TaskTable) (enter : TaskTable → Admission) {place : Result ℕ Refusal} {later : Answer} (so : later ≡ later_of place)
    (out : (r : Refusal) → place ≡ Err r → enter t ≡ not_admitted words r) where
  pub refused-entry : {r : Refusal} {w : List ℕ} → record { answer = refused r; lent = w } ≡ table_plan later beside t → (on_table (not_admitted words) enter t ≡ not_admitted words r) × (w ≡ beside)
  refused-entry {r} left =
      table-out words beside t enter later {a = refused r} left (λ n. out (refusal_of later) (later-refused place so n)) (refused-out later beside t {r = r} left).0

-- noting: the rules before the record's, and the board lent
module _ (bytes words : List ℕ) (rows : List Row) (cost : ℕ) where
  -- 26, 16
  pub refused-first : {r : Refusal} → before_reading (length words) cost ≡ Err r → noting bytes words rows cost ≡ not_admitted words r
  unfolding noting
  refused-first e = rw e

  module _ (first : before_reading (length words) cost ≡ Ok tt) where
    -- 17
    pub unsound : is_sound rows ≡ false → noting bytes words rows cost ≡ not_admitted words (refusal unsound_board 0)
    unfolding noting
    unsound e = rw (first, e)

    -- neither
    pub sound : is_sound rows ≡ true → noting bytes words rows cost ≡ on_task (not_admitted words) (entered rows words) bytes cost
    unfolding noting
    sound e = rw (first, e)

-- where there is no board, by the outcome of the same rules
pub none-refused : (words cost : ℕ) {r : Refusal} → before_reading words cost ≡ Err r → r ≡ no_board words cost
none-refused words cost e = rw e

pub none-unsound : (words cost : ℕ) → before_reading words cost ≡ Ok tt → refusal unsound_board 0 ≡ no_board words cost
none-unsound words cost e = rw e

-- a refusal as the code returns it, with the words as they were lent
pub leaves : {words : List ℕ} {r : Refusal} {x : Admission} {told : Result Change Refusal} → told ≡ Err r → x ≡ not_admitted words r → record { change = told; words = words } ≡ x
leaves {words} e f = (λ i. record { change = e i; words = words }) ∙ sym f
