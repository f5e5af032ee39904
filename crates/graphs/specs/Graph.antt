-- A whole text, word by word.
use Rattle.std.specs.Prelude.{ℕ, Bool, true, false, List, [], ◌∷◌, length, Ok, Err}
use Rattle.plain.specs.Pick.{pick}
use Rattle.refusals.specs.Numbers.{bad_id, bad_period, bad_layout, none_runs}
use Rattle.refusals.specs.declared.Refusal.{Refusal}
use Rattle.refusals.specs.Refusal.{refusal}
use Rattle.tables.specs.declared.TaskTable.{TaskTable}
use Rattle.tables.specs.Limits.{id_max, period_max}
use Rattle.tables.specs.Table.{empty_table}
use Rattle.tables.specs.Runs.{all_zero}
use Rattle.graphwords.specs.Words.{Word, words_at}
use Rattle.graphwords.specs.Decimal.{is_decimal, decimal_of, is_comment}
use Rattle.graphs.specs.declared.Graph.{Graph}
use Rattle.graphs.specs.Expected.{range, between, allows, Next, after}
use Rattle.graphs.specs.Expected.Due.{count}
use Rattle.graphs.specs.Expected.Next.{word, done}

-- the table that was read, and whether a comment ended the reading
abbrev pub graph_read : (commented : Bool) → TaskTable → Graph
graph_read commented t = record { outcome = Ok tt; table = t; commented = commented }

-- "from any reader of a table, a table that is all zeros"
abbrev pub no_graph : (commented : Bool) → Refusal → Graph
no_graph commented r = record { outcome = Err r; table = empty_table; commented = commented }

-- "21 last": all times are 0
abbrev pub unless_all_zero : (commented : Bool) → TaskTable → Graph
unless_all_zero commented t = pick (all_zero t.execution t.count) (no_graph commented (refusal none_runs 0)) (graph_read commented t)

-- what is expected next is tried on the words that are left of a text of `size` bytes: "22, the text breaks the layout, at the first byte of the bad word, or at
-- the text's length where it stops short"; a word is read whole before its range is tried
unfoldable pub reading : (size : ℕ) → Next → List Word → Graph
reading size (word due) [] = no_graph false (refusal bad_layout size)
reading size (word due) (w ∷ words) =
    pick (is_decimal w.letters)
    (pick (allows due (decimal_of w.letters))
    (reading size (after due (decimal_of w.letters)) words)
    (no_graph false (refusal (range due).broken w.place)))
    (no_graph false (refusal bad_layout w.place))
reading size (done t) [] = unless_all_zero false t
reading size (done t) (w ∷ words) = pick (is_comment w.letters) (unless_all_zero true t) (no_graph false (refusal bad_layout w.place))

-- "4 and 5 for the caller's id and period first, at 0; then from the left"
unfoldable pub graph_of : (text : List ℕ) (id period : ℕ) → Graph
graph_of text id period =
    pick (between 1 id id_max)
    (pick (between 1 period period_max)
    (reading (length text) (word (count id period)) (words_at text 0))
    (no_graph false (refusal bad_period 0)))
    (no_graph false (refusal bad_id 0))
