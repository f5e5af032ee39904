use Prim.Native.Nat.{◌-◌, ◌*◌, ◌≤◌}
use mathlib.Core.Path.{◌≡◌}
use lib.ListN.{length}
use Rattle.tables.specs.Limits.{count_max, least_execution}
use Rattle.listings.specs.Lists.{given_max}
use Rattle.menders.specs.Draft.{nodes_taken}
use Rattle.menders.proofs.Reader.take_nodes.Given as goal

abbrev pub invariant-loop-v : goal.invariant-loop-v
invariant-loop-v l =
    (nodes_taken l.n 0 l.initial.table 0 0 l.initial.self.bytes.now l.initial.self.spot
    ≡ nodes_taken (l.n - l.v) l.v l.table l.counts.reordered l.counts.dropped l.initial.self.bytes.now l.self.spot)
    × (l.least ≡ least_execution l.table.edition)
    × (l.table.count ≡ l.n)
    × (l.self.bytes.now ≡ l.initial.self.bytes.now)
    × (length l.table.execution ≡ count_max)
    × (length l.table.parents ≡ count_max)
    × (l.counts.reordered ≤ l.v)
    × (l.counts.dropped ≤ given_max * l.v)
