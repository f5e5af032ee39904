use Prim.Native.Nat.{ℕ, suc, ◌+◌, ◌^◌, ◌<◌}
use mathlib.Core.Path.{◌≡◌}
use lib.ListN.{length}
use lib.Seq.{sets}
use Rattle.numbers.specs.Shortest.{shortest}
use Rattle.numbers.specs.Inner.Word.{word_more}
use Rattle.numbers.proofs.write_number.Given as goal

abbrev pub invariant-loop-left : goal.invariant-loop-left
invariant-loop-left l =
    (more : ℕ) × (sets l.initial.bytes l.from (shortest word_more l.value) ≡ sets l.bytes l.at (shortest more l.left))
    × (l.from + length (shortest word_more l.value) ≡ l.at + length (shortest more l.left)) × (length l.bytes ≡ length l.initial.bytes) × (l.left < 128 ^ suc more)

abbrev pub decreases-loop-left : goal.decreases-loop-left
decreases-loop-left l = l.left
