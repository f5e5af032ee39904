-- A text's record as one definition: the text is read, and its table is written as any other.
use Rattle.std.specs.Prelude.{ℕ, List}
use Rattle.refusals.specs.Refusal.{on_outcome}
use Rattle.refusals.specs.After.{After}
use Rattle.writers.specs.Writing.{unwritten, writing}
use Rattle.graphs.specs.Graph.{graph_of}

-- a refusal of the reading goes out, and nothing is written; else what the writer leaves, "19 at the buffer's length" where it is too short
unfoldable pub graph_call : (text bytes : List ℕ) (id period : ℕ) → After (List ℕ)
graph_call text bytes id period = (let graph = graph_of text id period in
    on_outcome (unwritten bytes) (writing graph.table bytes) graph.outcome)
