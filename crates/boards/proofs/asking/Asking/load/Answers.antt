-- `boards::Asking::load` meets its contract: a board that is asked is sound.
use Rattle.std.proofs.Common.{arith}
use Rattle.boards.proofs.Sound.{sound-test, sum_of-le, largest_of-le}
use Rattle.boards.proofs.asking.Asking.load.Goals as goal

pub sum_of-sum-requires : goal.sum_of-sum-requires
sum_of-sum-requires c = sound-test c.args.self.board.now.rows c.args.self.sound

pub returns-clause-bounded : goal.returns-clause-bounded
returns-clause-bounded c =
    let s = sum_of-le (sound-test c.args.self.board.now.rows c.args.self.sound) in
    let l = largest_of-le (sound-test c.args.self.board.now.rows c.args.self.sound) in
    record { sum-high = omega arith; largest-high = omega arith }
