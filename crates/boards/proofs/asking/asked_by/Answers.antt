-- `boards::asked_by` meets its contract: 17 and 15 as they come, and where neither is given, what the verdict says of the board that is asked.
use Rattle.std.proofs.Common.{◌≡◌, sym, ap, ap₂, ◌∙◌, Bool, true, false, refl, ℕ}
use mir.Val.{bool_byte}
use Rattle.plain.specs.Pick.{one}
use Rattle.refusals.specs.Answer.{accepted, answered}
use Rattle.refusals.proofs.Out.{goes-out}
use Rattle.boards.specs.declared.Board.{Board}
use Rattle.boards.specs.Change.{asked_by as asked}
use Rattle.boards.proofs.Cases.{asked-refused, asked-told, asks-where}
use Rattle.boards.proofs.asking.asked_by.Goals as goal

-- a yes as a number
as-one : (b : Bool) → bool_byte b ≡ one b
as-one true = refl
as-one false = refl

pub returns-in_err-asking : goal.returns-in_err-asking
returns-in_err-asking g c =
    ap answered (goes-out _ _ c.from_residual.ensures.1) ∙ sym (asked-refused g.yes c.args.board.now.rows c.args.cores c.in_err-asking.ensures)

pub returns : goal.returns
returns g c =
    let a = c.in_ok-asking.asking in
    let so = c.in_ok-asking.ensures in
    ap accepted (c.from.ensures ∙ as-one c.says-yes.result)
    ∙ ap (λ (b : Bool). accepted (one b)) (c.requires.1.1 a _ c.says-yes.ensures)
    ∙ sym (asked-told g.yes a.board.now.rows a.cores (asks-where a.board.now.rows a.cores a.sound a.in_range))
    ∙ ap₂ (λ (b : Board) (m : ℕ). asked g.yes b.rows m) so.0 so.1
