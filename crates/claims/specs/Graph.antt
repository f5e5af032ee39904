-- All that is promised of reading a graph (`planner_read_graph`).
use Rattle.std.specs.Prelude.{◌≡◌, ◌⊎◌, true, ℕ, ◌≤◌, ◌<◌, length, take, Ok, Err}
use mathlib.Core.List.{List, [], ◌∷◌, Memᴰ}
use Rattle.refusals.specs.declared.Refusal.{Refusal}
use Rattle.refusals.specs.Readers.{is_in}
use Rattle.refusals.specs.After.{After}
use Rattle.tables.specs.declared.TaskTable.{TaskTable}
use Rattle.tables.specs.Table.{empty_table}
use Rattle.tables.specs.Runs.{SomeRuns}
use Rattle.tables.specs.Range.{InRange}
use Rattle.records.specs.Nodes.{table_read}
use Rattle.records.specs.Reading.{reading_of}
use Rattle.writers.specs.Record.{record_of}
use Rattle.graphwords.specs.Words.{Word, words_at, Stands, Ascending}
use Rattle.graphs.specs.Graph.{graph_of}
use Rattle.graphs.specs.Met.{Gives, Commented, Refuses}
use Rattle.graphs.specs.Alike.{spelling, Zeros, SaySame}
use Rattle.planner.specs.Allows.{GraphAllows}
use Rattle.claims.specs.Rule.{Rule, rule_at, rule, rule_by, IsAccepted}
use Rattle.claims.specs.Promise.{Promise}
use Rattle.claims.specs.Write.{write_value, with_record}

-- "4 and 5 for the caller's id and period first, at 0; then from the left" 22, 23, 7 and 8, as met; "21 last"; and of the call then 19, at the buffer's length
abbrev pub graph_rules : (text bytes : List ℕ) (id period : ℕ) → TaskTable → List Rule
graph_rules text bytes id period t =
    rule 4 ((id < 1) ⊎ (65535 < id))
    ∷ rule 5 ((period < 1) ⊎ (16777215 < period))
    ∷ rule_by (Refuses text id period)
    ∷ rule_at 19 (length bytes) (length bytes < length (record_of t))
    ∷ []

-- how an accepted text was read
pub record GraphRead (text : List ℕ) (id period : ℕ) (t : TaskTable) : Type 0 where
  pub gives : Gives text id period t
  pub range : InRange t
  -- "the result is an edition 2 table" with the caller's id and period
  pub edition : t.edition ≡ 2
  pub id-is : t.id ≡ id
  pub period-is : t.period ≡ period

-- the promises
pub record OfGraphs : Type 0 where
  pub call : (text bytes : List ℕ) (id period : ℕ) → (let t = (graph_of text id period).table in
      Promise (GraphAllows text bytes id period) bytes (graph_rules text bytes id period t) (write_value t) (λ _. with_record (record_of t) bytes))
  -- "Spaces and line ends (10, 13) alike part words.": the words are those that stand between them, all of them, "from the left"
  pub words : (text : List ℕ) (w : Word) → Memᴰ w (words_at text 0) → Stands text w
  pub all_words : (text : List ℕ) (w : Word) → Stands text w → Memᴰ w (words_at text 0)
  pub from-left : (text : List ℕ) → Ascending 0 (words_at text 0)
  -- a text is refused by 7, 8, 21, 22 and 23 alone, at a byte of it or at its end
  pub own : (text : List ℕ) (id period number place : ℕ) → Refuses text id period number place →
      (is_in number (7 ∷ 8 ∷ 21 ∷ 22 ∷ 23 ∷ []) ≡ true) × (place ≤ length text)
  -- the table of an accepted text is the one that its words give
  pub gives : (text : List ℕ) (id period : ℕ) → (graph_of text id period).outcome ≡ Ok tt → GraphRead text id period (graph_of text id period).table
  -- and a text whose words give a table in which some node runs is read as that, for every id and period in range
  pub reads : (text : List ℕ) (id period : ℕ) (t : TaskTable) → 1 ≤ id → id ≤ 65535 → 1 ≤ period → period ≤ 16777215 → Gives text id period t → SomeRuns t →
      ((graph_of text id period).outcome ≡ Ok tt) × ((graph_of text id period).table ≡ t)
  -- no text gives two tables
  pub one_table : (text : List ℕ) (id period : ℕ) (t u : TaskTable) → Gives text id period t → Gives text id period u → t ≡ u
  -- "from any reader of a table, a table that is all zeros"
  pub all-zeros : (text : List ℕ) (id period : ℕ) (r : Refusal) → (graph_of text id period).outcome ≡ Err r → (graph_of text id period).table ≡ empty_table
  -- beside the table, and beside 21, it is told whether "a word starting with # ends the reading"
  pub commented : (text : List ℕ) (id period : ℕ) → (graph_of text id period).commented ≡ true → Commented text id period
  pub comment-told : (text : List ℕ) (id period : ℕ) → 1 ≤ id → id ≤ 65535 → 1 ≤ period → period ≤ 16777215 → Commented text id period → (graph_of text id period).commented ≡ true
  -- how words are parted changes neither the table nor the refusal's number
  pub parted : (text other : List ℕ) (id period : ℕ) → spelling text ≡ spelling other → SaySame (graph_of text id period) (graph_of other id period)
  -- nor do zeros in front of a number
  pub zeros : (text padded : List ℕ) (id period : ℕ) → Zeros (spelling text) (spelling padded) → SaySame (graph_of text id period) (graph_of padded id period)
  -- what is written is a record that the reader accepts, with the table that was read
  pub back : (text bytes : List ℕ) (id period : ℕ) (a : After (List ℕ)) → GraphAllows text bytes id period a → IsAccepted a.answer →
      reading_of (take a.answer.value a.lent) ≡ table_read (graph_of text id period).table
  -- a buffer of so many bytes is never too short
  pub longest : (text bytes : List ℕ) (id period : ℕ) (a : After (List ℕ)) → GraphAllows text bytes id period a → IsAccepted a.answer → a.answer.value ≤ 4361
