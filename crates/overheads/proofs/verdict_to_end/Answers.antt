-- `overheads::verdict_to_end` meets its contract: it is the definition's inequality, and on a sound board no side of it wraps.
use Rattle.std.proofs.Common.{ap₂, ◌∙◌, ℕ, ◌*◌, ◌+◌, ◌-◌, arith}
use lib.Dec.{leb}
use Rattle.tables.specs.Limits.{million}
use Rattle.boards.proofs.Sound.{sound-test}
use Rattle.overheads.proofs.Overhead.{overhead_of-le, overhead-fits, left-to-end-fits}
use Rattle.overheads.proofs.verdict_to_end.Goals as goal

pub overflow_mul-result : goal.overflow_mul-result
overflow_mul-result c =
    let r = overhead_of-le (sound-test c.args.asking.board.now.rows c.args.asking.sound) in
    record { fits = overhead-fits _ _ (omega arith) (omega arith) }

pub overflow_add-result : goal.overflow_add-result
overflow_add-result c =
    let r = overhead_of-le (sound-test c.args.asking.board.now.rows c.args.asking.sound) in
    record { fits = rw c.left_side.ensures (left-to-end-fits _ _ _ _ _ (omega arith) (omega arith) (omega arith) (omega arith) (omega arith)) }

pub returns : goal.returns
returns c =
    let m = c.args.asking.cores in
    ap₂ (λ (L r : ℕ). leb (L + m * r) (m * million))
    (c.left_side.ensures ∙ ap₂ (λ (S M : ℕ). S + (m - 1) * M) c.load.ensures.tallied.0 c.load.ensures.tallied.1)
    c.overhead_of-overhead.ensures
