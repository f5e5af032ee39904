-- What is printed is what planning says: both go by the cases of the record's task. And a text's sheet is its table's, with a period that its path fits.
use mathlib.Core.Path.{◌≡◌, refl, sym, ap, ◌∙◌}
use mathlib.Core.Bool.{Bool, true, false}
use mathlib.Core.List.{List, [], ◌∷◌, ◌++◌, append-nil}
use Prim.Native.Nat.{ℕ, ◌+◌, ◌≤◌}
use native.Mathlib.Omega.{arith}
use lib.Dec.{ltb}
use lib.ListN.{length, take, drop, replicate, length-take}
use lib.Seq.{take_all}
use borrow.Author.Tests.{eqb-false, eq-eqb, ne_eqb, lt-ltb, le-ltb}
use Rattle.std.specs.Prelude.{Result, Ok, Err, ⊤}
use Rattle.plain.specs.Pick.{pick}
use Rattle.refusals.specs.Numbers.{loop, long_path, few_words, bad_layout}
use Rattle.refusals.specs.declared.Refusal.{Refusal}
use Rattle.refusals.specs.declared.Answer.{Answer}
use Rattle.refusals.specs.Refusal.{refusal, refusal_of, on_outcome}
use Rattle.refusals.specs.Answer.{refused}
use Rattle.refusals.specs.After.{After}
use Rattle.tables.specs.declared.TaskTable.{TaskTable}
use Rattle.tables.specs.Limits.{count_max}
use Rattle.tables.specs.Range.{InRange}
use Rattle.tables.specs.Cost.{costed}
use Rattle.tables.proofs.Cost.{costed-0, plannable}
use Rattle.graphs.specs.declared.Graph.{Graph}
use Rattle.ways.specs.Reaches.{Loops}
use Rattle.ways.specs.Closure.{loops}
use Rattle.ways.specs.Inner.Tidy.{Tidy}
use Rattle.ways.proofs.Closure.{loops-no}
use Rattle.rings.specs.Round.{Smallest}
use Rattle.rings.proofs.Round.{named-smallest}
use Rattle.segments.proofs.Segments.{segments-le}
use Rattle.plans.specs.Diagram.{finish, path}
use Rattle.plans.specs.Words.{words_max}
use Rattle.plans.specs.Calls.{loop_in, on_table, task_of}
use Rattle.plans.proofs.Table.{tidy}
use Rattle.plans.proofs.Tests.{task-refused, task-read, on-loop, on-long, on_fits}
use Rattle.plans.proofs.Read.{at-segments, at-nodes}
use Rattle.plans.proofs.Cases.{Tasking, tasking}
use Rattle.plans.proofs.Cases.Tasking.{unread, round, long, goes}
use Rattle.texts.specs.Text.{bytes as text}
use Rattle.texts.specs.Lines.{line}
use Rattle.texts.specs.Wrote.{wrote}
use Rattle.sheets.specs.Lines.{refused_line}
use Rattle.sheets.specs.Sheet.{sheet_text, sheet_max}
use Rattle.sheets.specs.Printed.{head_of, table_sheet, sheet_cost, sheet_of, printed}
use Rattle.sheets.proofs.Sizes.{sheet-fits, refusal-fits}
use Rattle.mendlines.proofs.Lines.{line-counts, line-refusal, line-fits}
use Rattle.graphsheets.specs.Sheet.{text_max, graph_in, cut_off, relaxed, graph_sheet}
use Rattle.buildingsheets.specs.Sheet.{building_in}
use Rattle.buildingsheets.proofs.Lines.{text-whole, text-ended, building-fits}
use Rattle.graphsheets.proofs.Relaxed.{ready, path-low, path-high}
use Rattle.graphsheets.proofs.Sheets.{sheet-cut, whole-short, whole-commented, sheet-refused, sheet-read, read-range}
use Rattle.planchecks.specs.Pair.{on_pair}
use Rattle.planchecks.specs.Sheet.{judged_pair, pair_text, check_sheet}
use Rattle.planchecks.proofs.Pairs.{second-refused, pair-refused, pair-first}
use Rattle.planchecks.proofs.Filed.{pair-followed, pair-whole}
use Rattle.planchecks.proofs.Fits.{check-fits}
use Rattle.claims.specs.Rule.{IsAccepted, IsRefused}
use Rattle.claims.specs.Print.{sheet_graph, Tabled, pair_of, OfPrinting}
use Rattle.claims.proofs.Record.{unread-some, one-smallest}
use Rattle.claims.proofs.Diagram.{loop-free}
use Rattle.claims.proofs.Plan.{PlanCase, planning}
use Rattle.claims.proofs.Plan.PlanCase.{dear, few, tries}

-- a line says a refusal's number and place, as the answer does
same_line : {q r : Refusal} → refused q ≡ refused r → refused_line q ≡ refused_line r
same_line e = ap (λ (a : Answer). line ((text "refused ", a.refusal) ∷ (text "at ", a.place) ∷ [])) e

module _ (bytes words : List ℕ) where
  -- a refusal
  refusal-line : (r : Refusal) → 387 ≤ length words → {x : After (List ℕ)} → PlanCase bytes words 0 x → x.answer ≡ refused r → sheet_of bytes ≡ refused_line r
  refusal-line r w (dear c) a = absurd (omega arith)
  refusal-line r w (few _ l) a = absurd (omega arith)
  refusal-line r w (tries _ _ (unread q e)) a = task-refused refused_line table_sheet bytes 0 e ∙ same_line a
  refusal-line r w (tries _ _ (round e l)) a = task-read refused_line table_sheet bytes 0 e ∙ on-loop refused_line table_sheet (task_of bytes 0) l ∙ same_line a
  refusal-line r w (tries _ _ (long e l h)) a = task-read refused_line table_sheet bytes 0 e ∙ on-long refused_line table_sheet (task_of bytes 0) l h ∙ same_line a
  refusal-line r w (tries _ _ (goes e ok)) a = absurd (let v = ap (λ (x : Answer). x.value) a in omega arith)

  -- a plan
  plan-sheet : {x : After (List ℕ)} → PlanCase bytes words 0 x → IsAccepted x.answer → sheet_of bytes ≡ table_sheet (task_of bytes 0)
  plan-sheet (dear c) z = absurd (omega arith)
  plan-sheet (few _ l) z = absurd (eqb-false few_words 0 refl z)
  plan-sheet (tries _ _ (unread q e)) z = absurd (unread-some bytes q e z)
  plan-sheet (tries _ _ (round e l)) z = absurd (eqb-false loop 0 refl z)
  plan-sheet (tries _ _ (long e l h)) z = absurd (eqb-false long_path 0 refl z)
  plan-sheet (tries _ _ (goes e ok)) z = task-read refused_line table_sheet bytes 0 e ∙ on_fits refused_line table_sheet (task_of bytes 0) ok.free ok.fits

-- the sheet of a table fits
table_fits : (t : TaskTable) → t.count ≤ count_max → length (table_sheet t) ≤ sheet_max
table_fits t most =
    let few = segments-le t.count (finish t) in
    sheet-fits (head_of t) _ (rw (at-segments t (replicate words_max 0)) (omega arith)) (rw (at-nodes t (replicate words_max 0)) most)

-- every sheet fits
fits : (bytes : List ℕ) {x : List ℕ} → Tasking refused_line table_sheet bytes 0 x → length x ≤ sheet_max
fits bytes (unread r e) = refusal-fits r
fits bytes (round e l) = refusal-fits (loop_in (task_of bytes 0))
fits bytes (long e l h) = refusal-fits (refusal long_path 0)
fits bytes (goes e ok) = table_fits (task_of bytes 0) (plannable ok.range).count-high

-- at the front nothing stands before the text
front : (text out : List ℕ) → sheet_max ≤ length out → printed text out ≡ record { count = length text; out = text ++ drop (length text) out }
unfolding wrote
front text out h = let none : 0 + length text ≡ length text = omega arith in rw (le-ltb (length out) sheet_max h, none)

-- ---- graphsheet
-- a text of at most 65,536 bytes is read whole
module _ (text : List ℕ) (short : length text ≤ 65536) where
  all_read : graph_in text ≡ sheet_graph text
  all_read = ap (λ (l : List ℕ). sheet_graph l) (take_all text_max text short)

  graph-refusal : (r : Refusal) → (sheet_graph text).outcome ≡ Err r → graph_sheet text ≡ refused_line r
  graph-refusal r e = sheet-refused text (whole-short text short) (ap (λ (g : Graph). g.outcome) all_read ∙ e)

-- its table is in range, and its sheet is the table's
module _ {text : List ℕ} {t : TaskTable} (a : Tabled text t) where
  accepted : (graph_in text).outcome ≡ Ok tt
  accepted = ap (λ (g : Graph). g.outcome) (all_read text a.short) ∙ a.read

  table_is : (graph_in text).table ≡ t
  table_is = ap (λ (g : Graph). g.table) (all_read text a.short) ∙ a.table

  in-range : InRange t
  in-range = rw table_is at (read-range text accepted)

  table-sheet : graph_sheet text ≡ on_table refused_line table_sheet (relaxed t)
  table-sheet = sheet-read text (whole-short text a.short) accepted ∙ ap (λ (x : TaskTable). on_table refused_line table_sheet x) (costed-0 (relaxed (graph_in text).table) ∙ ap (λ (x : TaskTable). relaxed x) table_is)

  -- with a loop, its smallest node is told
  graph-loop : (node : ℕ) → Smallest t.parents node → graph_sheet text ≡ refused_line (refusal loop node)
  graph-loop node s = by (loops t.parents t.count) refl
    where
      parents-tidy : Tidy t.parents t.count
      parents-tidy = tidy (ready in-range)

      by : (b : Bool) → loops t.parents t.count ≡ b → graph_sheet text ≡ refused_line (refusal loop node)
      by true e = table-sheet ∙ on-loop refused_line table_sheet (relaxed t) e ∙ ap (λ (v : ℕ). refused_line (refusal loop v)) (one-smallest (named-smallest parents-tidy e) s)
      by false e = absurd (loops-no t.parents t.count parents-tidy e node s.here)

  -- without one, the path is within twice itself
  module _ (n : Loops t.parents t.count → ⊥) where
    no_loop : loops t.parents t.count ≡ false
    no_loop = loop-free (ready in-range) n

    graph-sheet : graph_sheet text ≡ table_sheet (relaxed t)
    graph-sheet = table-sheet ∙ on_fits refused_line table_sheet (relaxed t) no_loop (omega arith)

    graph-period : (1 ≤ (relaxed t).period) × ((relaxed t).period ≤ 8388480)
    graph-period = (omega (arith, path-low in-range no_loop), omega (arith, path-high in-range no_loop))

-- a longer one, by its first bytes
graph-front : (text : List ℕ) → (sheet_graph (take 65536 text)).commented ≡ true → graph_sheet text ≡ graph_sheet (take 65536 text)
unfolding graph_sheet
graph-front text e =
    let front = take 65536 text in
    let short : length front ≤ 65536 = simp length-take (omega arith) in
    rw (whole-commented text e, whole-short front short, take_all 65536 front short)

-- every text's sheet fits
on-table-fits : (t : TaskTable) → t.count ≤ count_max → length (on_table refused_line table_sheet t) ≤ sheet_max
unfolding on_table
on-table-fits t most = by (loops t.parents t.count) (ltb t.period (path t))
  where
    by : (b c : Bool) → length (pick b (refused_line (loop_in t)) (pick c (refused_line (refusal long_path 0)) (table_sheet t))) ≤ sheet_max
    by true c = refusal-fits (loop_in t)
    by false true = refusal-fits (refusal long_path 0)
    by false false = table_fits t most

graph-fits : (text : List ℕ) → length (graph_sheet text) ≤ sheet_max
unfolding graph_sheet
graph-fits text = by (cut_off text) (graph_in text).outcome refl
  where
    by : (b : Bool) (o : Result ⊤ Refusal) → (graph_in text).outcome ≡ o → length (pick b (refused_line (refusal bad_layout text_max)) (on_outcome refused_line (on_table refused_line table_sheet (costed (relaxed (graph_in text).table) sheet_cost)) o)) ≤ sheet_max
    by true o e = refusal-fits (refusal bad_layout text_max)
    by false (Err r) e = refusal-fits r
    by false (Ok done) e = on-table-fits (costed (relaxed (graph_in text).table) sheet_cost) (read-range text e).count-high

-- what plancheck prints of two records that were judged, and of an input that it reads whole
check-line : (bytes plan : List ℕ) → IsRefused (judged_pair bytes plan).answer → pair_text bytes plan ≡ refused_line (refusal_of (judged_pair bytes plan).answer)
check-line bytes plan n = rw (ne_eqb (judged_pair bytes plan).answer.refusal 0 n)

check-plan : (bytes plan : List ℕ) → IsAccepted (judged_pair bytes plan).answer → pair_text bytes plan ≡ sheet_text (head_of (task_of bytes 0)) (judged_pair bytes plan).lent
check-plan bytes plan z = rw (eq-eqb (judged_pair bytes plan).answer.refusal 0 z)

check-whole : (input : List ℕ) → length input ≤ 8192 → check_sheet input ≡ on_pair refused_line pair_text input
check-whole input h = ap (on_pair refused_line pair_text) (take_all 8192 input h)

check-pair : (bytes plan : List ℕ) → length (pair_of bytes plan) ≤ 8192 → check_sheet (pair_of bytes plan) ≡ pair_text bytes plan
check-pair bytes plan h =
    let whole = append-nil (pair_of bytes plan) in
    check-whole (pair_of bytes plan) h ∙ ap (on_pair refused_line pair_text) (sym whole) ∙ pair-whole refused_line pair_text bytes plan [] (omega (arith, ap (length {A = ℕ}) whole)) refl

-- the promises
pub of-printing : OfPrinting
of-printing = record {
  refusal = λ bytes words r w a. refusal-line bytes words r w (planning bytes words 0) a;
  sheet = λ bytes words z. plan-sheet bytes words (planning bytes words 0) z;
  fits = λ bytes. fits bytes (tasking refused_line table_sheet bytes 0 (omega arith));
  written = λ bytes out h. front (sheet_of bytes) out h;
  untouched = λ bytes out h. rw (lt-ltb (length out) sheet_max h);
  mend-counts = line-counts;
  mend-refusal = line-refusal;
  mend-fits = line-fits;
  graph-refusal = λ text r short e. graph-refusal text short r e;
  graph-loop = λ text t node a s. graph-loop a node s;
  graph-sheet = λ text t a n. graph-sheet a n;
  graph-period = λ text t a n. graph-period a n;
  graph-front = λ text l e. graph-front text e;
  graph-cut = sheet-cut;
  graph-fits = graph-fits;
  building-sheet = λ file. refl;
  building-whole = text-whole;
  building-ended = text-ended;
  building-fits = λ file. building-fits (building_in file);
  check-refusal = λ bytes plan h n. check-pair bytes plan h ∙ check-line bytes plan n;
  check-sheet = λ bytes plan h z. check-pair bytes plan h ∙ check-plan bytes plan z;
  check-first = λ input r h e. check-whole input h ∙ pair-refused refused_line pair_text input e;
  check-second = λ input size begin r h e f. check-whole input h ∙ pair-first refused_line pair_text input e ∙ second-refused refused_line pair_text input begin size f;
  check-follow = λ bytes plan rest some h. check-whole (pair_of bytes plan ++ rest) h ∙ pair-followed refused_line pair_text bytes plan rest (omega arith) some;
  check-front = λ input. ap (on_pair refused_line pair_text) (sym (take_all 8192 (take 8192 input) (omega (arith, length-take 8192 input))));
  check-fits = check-fits;
}
