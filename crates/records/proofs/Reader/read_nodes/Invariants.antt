use Prim.Native.Nat.{◌-◌}
use mathlib.Core.Path.{◌≡◌}
use lib.ListN.{length}
use Rattle.tables.specs.Limits.{count_max, least_execution}
use Rattle.records.specs.Nodes.{nodes}
use Rattle.records.proofs.Reader.read_nodes.Given as goal

abbrev pub invariant-loop-i : goal.invariant-loop-i
invariant-loop-i l =
    (nodes l.n 0 l.initial.table l.initial.self.bytes.now l.initial.self.at ≡ nodes (l.n - l.i) l.i l.table l.self.bytes.now l.self.at) × (l.least ≡ least_execution l.table.edition)
    × (l.table.count ≡ l.n) × (length l.table.execution ≡ count_max) × (length l.table.parents ≡ count_max) × (l.self.bytes ≡ l.initial.self.bytes)
