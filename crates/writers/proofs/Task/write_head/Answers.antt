-- `Task::write_head` meets its contract: its four numbers are written one after the other, and there is room for each.
use Prim.Native.Nat.{◌+◌, ◌≤◌}
use mathlib.Core.Path.{◌∙◌}
use mathlib.Core.List.{[], ◌∷◌}
use native.Mathlib.Omega.{arith}
use lib.ListN.{length}
use Rattle.numbers.specs.Number.{record_more}
use Rattle.numbers.proofs.Written.{Wrote, wrote_none, word_number, wrote-number, wrote-more, room-rest, room_after}
use Rattle.writers.specs.Record.{numbers_written}
use Rattle.writers.specs.Inner.Parts.{head_numbers}
use Rattle.writers.proofs.Task.write_head.Goals as goal
use Rattle.writers.proofs.Task.write_head.Goals.{After-write_number-3, After-write_number, After-write_number-2, Start}

-- there is room for all four
room : (a : Start) → a.args.out.now.at + length (numbers_written (head_numbers a.args.self.edition a.args.self.id a.args.self.period (length a.args.self.executions.now))) ≤ length a.args.out.now.bytes.now
room a = omega (arith, a.requires.n_in_bounds)

pub write_number-requires : goal.write_number-requires
write_number-requires c = rw (word_number record_more c.args.self.edition (omega arith) (omega arith)) (room_after (wrote_none record_more c.args.out.now.bytes.now c.args.out.now.at) (c.args.self.edition ∷ []) _ (room (goal.at.write_number-requires c).Start))

-- the edition is written
first : (c : After-write_number) → (let a = c.args in
    Wrote record_more a.out.now.bytes.now a.out.now.at (a.self.edition ∷ []) c.write_number.new.self.bytes.now c.write_number.new.self.at)
first c = wrote-number record_more _ (omega (arith, c.requires.edition_le_edition_max)) (omega arith) c.write_number.ensures.place c.write_number.ensures.bytes_after

pub write_number-requires-2 : goal.write_number-requires-2
write_number-requires-2 c = rw (word_number record_more c.args.self.id (omega arith) (omega arith)) (room_after (first (goal.at.write_number-requires-2 c).After-write_number) (c.args.self.id ∷ []) _ (room (goal.at.write_number-requires-2 c).Start))

-- the id after it
second : (c : After-write_number-2) → (let a = c.args in
    Wrote record_more a.out.now.bytes.now a.out.now.at (a.self.edition ∷ a.self.id ∷ []) c.write_number-2.new.self.bytes.now c.write_number-2.new.self.at)
second c = wrote-more (first (goal.at-After-write_number-2 c).After-write_number) (wrote-number record_more _ (omega (arith, c.requires.edition_le_edition_max)) (omega arith) c.write_number-2.ensures.place c.write_number-2.ensures.bytes_after)

pub write_number-requires-3 : goal.write_number-requires-3
write_number-requires-3 c = rw (word_number record_more c.args.self.period (omega arith) (omega arith)) (room_after (second (goal.at.write_number-requires-3 c).After-write_number-2) (c.args.self.period ∷ []) _ (room (goal.at.write_number-requires-3 c).Start))

-- and the period
third : (c : After-write_number-3) → (let a = c.args in
    Wrote record_more a.out.now.bytes.now a.out.now.at (a.self.edition ∷ a.self.id ∷ a.self.period ∷ []) c.write_number-3.new.self.bytes.now c.write_number-3.new.self.at)
third c = wrote-more (second (goal.at-After-write_number-3 c).After-write_number-2) (wrote-number record_more _ (omega (arith, c.requires.edition_le_edition_max)) (omega arith) c.write_number-3.ensures.place c.write_number-3.ensures.bytes_after)

pub write_number-requires-4 : goal.write_number-requires-4
write_number-requires-4 c = rw (word_number record_more (length c.args.self.executions.now) (omega arith) (omega arith)) (room-rest (third (goal.at.write_number-requires-4 c).After-write_number-3) ((length c.args.self.executions.now) ∷ []) (room (goal.at.write_number-requires-4 c).Start))

pub returns : goal.returns
returns c = let w = wrote-more (third (goal.at.returns c).After-write_number-3) (wrote-number record_more _ (omega (arith, c.requires.edition_le_edition_max)) (omega arith) c.write_number-4.ensures.place c.write_number-4.ensures.bytes_after) in
    record {
      same_reference =
          c.write_number-4.ensures.same_reference ∙ c.write_number-3.ensures.same_reference ∙ c.write_number-2.ensures.same_reference ∙ c.write_number.ensures.same_reference;
      place = w.place;
      bytes_after = w.bytes;
    }
