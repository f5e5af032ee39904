-- `numbers::length_of` meets its contract: the greatest power of 2 in a word tells how many of its bits are there, and each byte of its form has seven of them.
use Rattle.std.proofs.Common.{sym, arith}
use Rattle.numbers.specs.Inner.Word.{word_more}
use Rattle.numbers.proofs.Shortest.{shortest-bits}
use Rattle.numbers.proofs.length_of.Goals as goal

pub returns : goal.returns
returns c = let m = c.max.ensures in let p = c.ilog2.ensures in
    sym (shortest-bits word_more _ _ (omega arith) (omega (arith, m, p.power_le)) (omega (arith, m, p.next_power_gt)))
