use Prim.Native.Nat.{◌+◌}
use mathlib.Core.Path.{◌≡◌}
use lib.ListN.{length}
use lib.Seq.{sets}
use Rattle.sets.specs.Members.{members}
use Rattle.writers.proofs.Writer.write_members.Given as goal

abbrev pub invariant-loop-member : goal.invariant-loop-member
invariant-loop-member l = let a = l.initial.self in
    (sets a.bytes.now a.at (members 64 l.set) ≡ sets l.self.bytes.now l.self.at (members 64 l.member-iterator.left))
    × (a.at + length (members 64 l.set) ≡ l.self.at + length (members 64 l.member-iterator.left)) × (length l.self.bytes.now ≡ length a.bytes.now) × (l.self.bytes.ghost_name ≡ a.bytes.ghost_name)
