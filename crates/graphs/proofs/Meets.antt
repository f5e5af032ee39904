-- A text's refusals by their rules. The reading goes on over the words that are left, one by one, and so over words that fit it is the reading of what is left after
-- them; and every word fits or does not, so that every text comes to a refusal or to its table.
use Prim.Native.Nat.{ℕ, ◌≤◌, ◌<◌, zero-le}
use mathlib.Core.Path.{◌≡◌, refl, sym, ap, ◌∙◌}
use mathlib.Core.Bool.{Bool, true, false}
use mathlib.Core.List.{List, [], ◌∷◌}
use native.Mathlib.Nat.{le_refl}
use native.Mathlib.Omega.{arith}
use lib.ListN.{length}
use Rattle.std.specs.Prelude.{Ok, Err}
use Rattle.plain.specs.Pick.{pick}
use Rattle.plain.proofs.Picks.{true-false}
use Rattle.refusals.specs.Numbers.{bad_execution, bad_parent, none_runs, bad_layout, many_tasks}
use Rattle.refusals.specs.Readers.{is_in}
use Rattle.refusals.specs.declared.Refusal.{Refusal}
use Rattle.refusals.specs.Refusal.{refusal}
use Rattle.tables.specs.declared.TaskTable.{TaskTable}
use Rattle.tables.specs.Table.{empty_table}
use Rattle.tables.specs.Runs.{SomeRuns, all_zero}
use Rattle.tables.proofs.Runs.{zero-all, all-zero, runs-some, some_runs}
use Rattle.records.proofs.Expected.{ByRule, by-rule}
use Rattle.graphwords.specs.Words.{Word, words_at}
use Rattle.graphwords.specs.Decimal.{is_decimal, decimal_of, is_comment}
use Rattle.graphwords.specs.Inner.Found.{past_word}
use Rattle.graphwords.proofs.Words.{word_here, First, first_word}
use Rattle.graphwords.proofs.Words.First.{one}
use Rattle.graphs.specs.declared.Graph.{Graph}
use Rattle.graphs.specs.Expected.{Due, range, Next, after}
use Rattle.graphs.specs.Expected.Due.{count, number, time, many, predecessor}
use Rattle.graphs.specs.Expected.Next.{word, done}
use Rattle.graphs.specs.Graph.{graph_read, no_graph, unless_all_zero, reading}
use Rattle.graphs.specs.Met.{Meets, Gives, Commented, Refuses}
use Rattle.graphs.specs.Met.Meets.{begin, on}
use Rattle.graphs.specs.Met.Gives.{at-end, at-comment}
use Rattle.graphs.specs.Met.Commented.{ends}
use Rattle.graphs.specs.Met.Refuses.{short, bad, outside, follows, nothing_runs}
use Rattle.graphs.proofs.Cases.{Allowed, allowed, fits-allowed, fails-refused}
use Rattle.graphs.proofs.Cases.Allowed.{fits, fails}

-- the table where all tasks are read, whatever the words say
table_at : Next → List Word → TaskTable
table_at (word due) [] = empty_table
table_at (word due) (w ∷ words) = table_at (after due (decimal_of w.letters)) words
table_at (done t) [] = t
table_at (done t) (w ∷ words) = t

-- the numbers that a text is refused by
abbrev pub own : List ℕ
own = bad_execution ∷ bad_parent ∷ none_runs ∷ bad_layout ∷ many_tasks ∷ []

broken-own : (due : Due) → is_in (range due).broken own ≡ true
unfolding is_in
broken-own (count id period) = refl
broken-own (number t i) = refl
broken-own (time t i) = refl
broken-own (many t i e) = refl
broken-own (predecessor t i e left given) = refl

module _ (text : List ℕ) (id period : ℕ) where
  -- the reading from the first word on
  abbrev pub whole : Graph
  whole = reading (length text) (word (count id period)) (words_at text 0)

  -- over words that fit it is the reading of what is left
  reached : {left : List Word} {next : Next} → Meets text id period left next → whole ≡ reading (length text) next left
  unfolding reading
  reached begin = refl
  reached (on {w = w} {due = due} m d f) = reached m ∙ rw (reading, d, fits-allowed due (decimal_of w.letters) f)

  -- so what gives a table comes to it, and what is refused by a rule to that number at that place
  given : {t : TaskTable} → Gives text id period t → (commented : Bool) × (whole ≡ unless_all_zero commented t)
  unfolding reading
  given (at-end m) = (false, reached m)
  given (at-comment m c) = (true, reached m ∙ rw (reading, c))

  pub gives-read : {t : TaskTable} → Gives text id period t → SomeRuns t → (commented : Bool) × (whole ≡ graph_read commented t)
  gives-read {t} g (v, h, r) = let e = given g in (e.0, e.1 ∙ rw (runs-some t.execution t.count v h r))

  rule-read : {k place : ℕ} → Refuses text id period k place → (commented : Bool) × (whole ≡ no_graph commented (refusal k place))
  unfolding reading
  rule-read (short m) = (false, reached m)
  rule-read (bad m d) = (false, reached m ∙ rw (reading, d))
  rule-read (outside {w = w} {due = due} m d f) = (false, reached m ∙ rw (reading, d, fails-refused due (decimal_of w.letters) f))
  rule-read (follows m c) = (false, reached m ∙ rw (reading, c))
  rule-read (nothing_runs {t} g z) = let e = given g in (e.0, e.1 ∙ rw (zero-all t.execution t.count z))

  pub rule-refused : {k place : ℕ} → Refuses text id period k place → whole.outcome ≡ Err (refusal k place)
  rule-refused f = ap (λ (g : Graph). g.outcome) (rule-read f).1

  -- what a text comes to
  data Comes : Type 0 where
    refuses : {k place : ℕ} → Refuses text id period k place → Comes
    gives : {t : TaskTable} → Gives text id period t → SomeRuns t → Comes

  -- after the last task
  last : {t : TaskTable} → Gives text id period t → Comes
  last {t} g = by (all_zero t.execution t.count) refl
    where
      by : (z : Bool) → all_zero t.execution t.count ≡ z → Comes
      by true z = refuses (nothing_runs g (all-zero t.execution t.count z))
      by false z = gives g (some_runs t.execution t.count z)

  comes-from : (left : List Word) (next : Next) → Meets text id period left next → Comes
  comes-from [] (word due) m = refuses (short m)
  comes-from [] (done t) m = last (at-end m)
  comes-from (w ∷ left) (word due) m = by (comes-from left (after due (decimal_of w.letters))) (is_decimal w.letters) refl
    where
      tried : (Meets text id period left (after due (decimal_of w.letters)) → Comes) → is_decimal w.letters ≡ true → {b : Bool} → Allowed due (decimal_of w.letters) b → Comes
      tried later d (fits f) = later (on m d f)
      tried later d (fails f) = refuses (outside m d f)

      by : (Meets text id period left (after due (decimal_of w.letters)) → Comes) → (b : Bool) → is_decimal w.letters ≡ b → Comes
      by later true d = tried later d (allowed due (decimal_of w.letters))
      by later false d = refuses (bad m d)
  comes-from (w ∷ left) (done t) m = by (is_comment w.letters) refl
    where
      by : (b : Bool) → is_comment w.letters ≡ b → Comes
      by true c = last (at-comment m c)
      by false c = refuses (follows m c)

  comes : Comes
  comes = comes-from (words_at text 0) (word (count id period)) begin

  -- and so a refusal is by its rule, beside the table that is all zeros, and an accepted table is given
  pub refused-rule : (r : Refusal) → whole.outcome ≡ Err r → ByRule (Refuses text id period) r
  refused-rule r q = by comes
    where
      by : Comes → ByRule (Refuses text id period) r
      by (refuses f) = by-rule (Refuses text id period) f (sym (rule-refused f) ∙ q)
      by (gives g runs) = let e = ap (λ (x : Graph). x.outcome) (sym (gives-read g runs).1) ∙ q in cc

  pub refused-table : (r : Refusal) → whole.outcome ≡ Err r → whole.table ≡ empty_table
  refused-table r q = by comes
    where
      by : Comes → whole.table ≡ empty_table
      by (refuses f) = ap (λ (x : Graph). x.table) (rule-read f).1
      by (gives g runs) = let e = ap (λ (x : Graph). x.outcome) (sym (gives-read g runs).1) ∙ q in cc

  pub read-gives : whole.outcome ≡ Ok tt → Gives text id period whole.table × SomeRuns whole.table
  read-gives q = by comes
    where
      by : Comes → Gives text id period whole.table × SomeRuns whole.table
      by (refuses f) = let e = sym (rule-refused f) ∙ q in cc
      by (gives g runs) = let same = ap (λ (x : Graph). x.table) (gives-read g runs).1 in rw same (g, runs)

  -- whether a comment ended the reading: it is told where all tasks were read, whatever their times are
  told : (commented : Bool) (t : TaskTable) → (unless_all_zero commented t).commented ≡ commented
  told commented t = by (all_zero t.execution t.count)
    where
      by : (z : Bool) → (pick z (no_graph commented (refusal none_runs 0)) (graph_read commented t)).commented ≡ commented
      by true = refl
      by false = refl

  pub comment-told : Commented text id period → whole.commented ≡ true
  unfolding given
  comment-told (ends {t = t} m c) = ap (λ (g : Graph). g.commented) (given (at-comment m c)).1 ∙ told true t

  pub told-comment : whole.commented ≡ true → Commented text id period
  unfolding given rule-read
  told-comment q = by comes
    where
      never : {r : Refusal} → whole ≡ no_graph false r → Commented text id period
      never e = absurd (true-false q (ap (λ (g : Graph). g.commented) e))

      ended : {t : TaskTable} → Gives text id period t → Commented text id period
      ended (at-end {t} m) = absurd (true-false q (ap (λ (g : Graph). g.commented) (given (at-end m)).1 ∙ told false t))
      ended (at-comment m c) = ends m c

      by : Comes → Commented text id period
      by (refuses (short m)) = never (rule-read (short m)).1
      by (refuses (bad m d)) = never (rule-read (bad m d)).1
      by (refuses (outside m d f)) = never (rule-read (outside m d f)).1
      by (refuses (follows m c)) = never (rule-read (follows m c)).1
      by (refuses (nothing_runs g z)) = ended g
      by (gives g runs) = ended g

  -- no text gives two tables
  met-table : {left : List Word} {next : Next} → Meets text id period left next → table_at (word (count id period)) (words_at text 0) ≡ table_at next left
  unfolding table_at
  met-table begin = refl
  met-table (on m d f) = met-table m

  given-table : {t : TaskTable} → Gives text id period t → table_at (word (count id period)) (words_at text 0) ≡ t
  unfolding table_at
  given-table (at-end m) = met-table m
  given-table (at-comment m c) = met-table m

  pub one_table : {t u : TaskTable} → Gives text id period t → Gives text id period u → t ≡ u
  one_table g h = sym (given-table g) ∙ given-table h

  -- a refusal is at a word, which begins inside the text, or at its end, or at 0
  front : {w : Word} {left : List Word} → First text (w ∷ left) → (w.place < length text) × First text left
  front (one place h) = (h, first_word text (past_word (word_here text place)))

  met-first : {left : List Word} {next : Next} → Meets text id period left next → First text left
  met-first begin = first_word text 0
  met-first (on m d f) = (front (met-first m)).1

  inside : {w : Word} {left : List Word} {next : Next} → Meets text id period (w ∷ left) next → w.place ≤ length text
  inside m = omega (arith, (front (met-first m)).0)

  pub place_inside : {k place : ℕ} → Refuses text id period k place → place ≤ length text
  place_inside (short m) = le_refl (length text)
  place_inside (bad m d) = inside m
  place_inside (outside m d f) = inside m
  place_inside (follows m c) = inside m
  place_inside (nothing_runs g z) = zero-le

  -- and by one of its own numbers
  pub own-number : {k place : ℕ} → Refuses text id period k place → is_in k own ≡ true
  unfolding is_in
  own-number (short m) = refl
  own-number (bad m d) = refl
  own-number (outside {due = due} m d f) = broken-own due
  own-number (follows m c) = refl
  own-number (nothing_runs g z) = refl
