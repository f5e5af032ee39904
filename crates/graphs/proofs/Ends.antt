-- After the last task. Where a word begins, its first byte says whether it is a comment; where none does, the text has ended.
use Prim.Native.Nat.{ℕ, ◌+◌, ◌≤◌, ◌<◌}
use mathlib.Core.Path.{◌≡◌, ap, ◌∙◌}
use mathlib.Core.Logic.{⊎_elim}
use mathlib.Core.Bool.{Bool, true, false}
use mathlib.Core.List.{List, ◌∷◌}
use lib.Dec.{eqb, ltb}
use lib.ListN.{length, drop}
use borrow.Author.Tests.{lt-ltb, le-ltb}
use Rattle.plain.specs.At.{at}
use Rattle.plain.proofs.Lists.{lt-or-ge}
use Rattle.refusals.specs.Numbers.{bad_layout, none_runs}
use Rattle.refusals.specs.Refusal.{refusal}
use Rattle.tables.specs.declared.TaskTable.{TaskTable}
use Rattle.tables.specs.Runs.{all_zero}
use Rattle.graphwords.specs.Words.{letters_of}
use Rattle.graphwords.specs.Inner.Found.{Begins}
use Rattle.graphwords.proofs.Words.{letters-more, from-here, words-here, words-ended}
use Rattle.graphs.specs.Expected.Next.{done}
use Rattle.graphs.specs.Graph.{graph_read, no_graph, unless_all_zero, reading}
use Rattle.graphs.specs.Inner.Taken.{reading_at}

module _ (text : List ℕ) (from place : ℕ) (b : Begins text from place) (t : TaskTable) where
  -- a word begins there
  letters : place < length text → letters_of (drop place text) ≡ at text place ∷ letters_of (drop (place + 1) text)
  letters h = ap letters_of (from-here text place h) ∙ letters-more _ _ (b.first h)

  pub ends-other : place < length text → eqb (at text place) 35 ≡ false → reading_at text (done t) from ≡ no_graph false (refusal bad_layout place)
  unfolding reading
  ends-other h e = rw (b.same, words-here text place h (b.first h), reading, letters h, e)

  ends-comment : place < length text → eqb (at text place) 35 ≡ true → reading_at text (done t) from ≡ unless_all_zero true t
  unfolding reading
  ends-comment h e = rw (b.same, words-here text place h (b.first h), reading, letters h, e)

  ends-none : length text ≤ place → reading_at text (done t) from ≡ unless_all_zero false t
  unfolding reading
  ends-none h = rw (b.same, words-ended text place h)

  -- a comment or nothing
  pub ends : (place < length text → eqb (at text place) 35 ≡ true) → reading_at text (done t) from ≡ unless_all_zero (ltb place (length text)) t
  ends e = ⊎_elim (λ h. ends-comment h (e h) ∙ rw (lt-ltb _ _ h)) (λ h. ends-none h ∙ rw (le-ltb _ _ h)) (lt-or-ge place (length text))

-- all times are 0, and some is not
module _ (commented : Bool) (t : TaskTable) where
  pub nothing_runs : all_zero t.execution t.count ≡ true → unless_all_zero commented t ≡ no_graph commented (refusal none_runs 0)
  nothing_runs e = rw e

  pub some_runs : all_zero t.execution t.count ≡ false → unless_all_zero commented t ≡ graph_read commented t
  some_runs e = rw e
