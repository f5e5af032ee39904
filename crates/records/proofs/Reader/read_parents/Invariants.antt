use Prim.Native.Nat.{◌-◌, ◌^◌, ◌≤◌, ◌<◌}
use mathlib.Core.Path.{◌≡◌}
use Rattle.records.specs.Parents.{parents}
use Rattle.records.proofs.Reader.read_parents.Given as goal

abbrev pub invariant-loop-k : goal.invariant-loop-k
invariant-loop-k l =
    (parents l.count l.n 0 0 l.initial.self.bytes.now l.initial.self.at ≡ parents (l.count - l._k) l.n l.low l.set l.self.bytes.now l.self.at) × (l.low ≤ l.n) × (l.set < 2 ^ l.low) × (l.self.bytes ≡ l.initial.self.bytes)
