-- `texts::Page::put_line` meets its contract: each field is written where the one before ends, and what is left of the line begins with it.
use mathlib.Core.Path.{refl}
use Rattle.std.proofs.lemmas.List.{length-map}
use Rattle.texts.specs.Lines.{line}
use Rattle.texts.proofs.Lines.{left_none, left-room, left-more, left-all, after_is, field-last, field-more}
use Rattle.texts.proofs.Page.put_line.Goals as goal
use Rattle.texts.proofs.Page.put_line.Goals.{Joined-i-fields, then-i-fields, else-i-fields}

pub loop-i-init : goal.loop-i-init
loop-i-init c = left_none c.requires

-- the byte after field i
after : (c : Joined-i-fields) → after_is c.args.fields.now c.loop-i.i c.if-i-fields.after
after c = elim c.if-i-fields.branch [
  | then-i-fields w ↦ rw w.after-is (field-last _ _ c.loop-i-test.true w.if-i-fields.true)
  | else-i-fields w ↦ rw w.after-is (field-more _ _ c.loop-i-test.true w.if-i-fields.false)
]

pub put_field-requires : goal.put_field-requires
put_field-requires c = left-room c.loop-i.invariant (after (goal.at.put_field-requires c).Joined-i-fields)

pub loop-i-preserved : goal.loop-i-preserved
loop-i-preserved c = left-more c.loop-i.invariant (after (goal.at.loop-i-preserved c).Joined-i-fields) c.put_field.ensures

pub returns : goal.returns
unfolding line
returns c = left-all c.loop-i.invariant refl (rw length-map c.loop-i-test.false)
