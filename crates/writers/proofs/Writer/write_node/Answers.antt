-- `Writer::write_node` meets its contract: its numbers are written one after the other, and there is room for each.
use Prim.Native.Nat.{ℕ, suc, ◌+◌, ◌^◌, ◌<◌}
use mathlib.Core.Path.{◌≡◌, sym, ap, ◌∙◌}
use mathlib.Core.List.{[], ◌∷◌}
use native.Mathlib.Omega.{arith}
use lib.ListN.{length}
use Rattle.sets.specs.Members.{members}
use Rattle.sets.proofs.Sizes.{size-full, length-members}
use Rattle.numbers.specs.Number.{record_more}
use Rattle.numbers.proofs.Written.{Wrote, wrote_none, word_number, wrote-number, wrote-more, room-rest, room_after}
use Rattle.tables.specs.Limits.{count_max}
use Rattle.writers.proofs.Putting.{wrote-members, members-size}
use Rattle.writers.proofs.Writer.write_node.Goals as goal
use Rattle.writers.proofs.Writer.write_node.Goals.{After-size_of, After-write_number, After-write_number-2}

pub write_number-requires : goal.write_number-requires
write_number-requires c = let a = c.args in
    rw (word_number record_more a.execution (omega arith) (omega arith)) (room_after (wrote_none record_more a.self.now.bytes.now a.self.now.at) (a.execution ∷ []) _ c.requires.1)

-- the execution is written
first : (c : After-write_number) → (let a = c.args in
    Wrote record_more a.self.now.bytes.now a.self.now.at (a.execution ∷ []) c.write_number.new.self.bytes.now c.write_number.new.self.at)
first c = wrote-number record_more _ (omega (arith, c.requires.0)) (omega arith) c.write_number.ensures.place c.write_number.ensures.bytes_after

-- the parent count, which is at most 64
count : (c : After-size_of) → c.size_of.result ≡ length (members count_max c.args.set)
count c = c.size_of.ensures ∙ sym (length-members count_max _)

many : (c : After-size_of) → c.size_of.result < 128 ^ suc record_more
many c = let s = c.args.set in omega (arith, count c, length-members count_max s, size-full count_max s)

pub write_number-requires-2 : goal.write_number-requires-2
write_number-requires-2 c = rw (word_number record_more c.size_of.result (many (goal.at.write_number-requires-2 c).After-size_of) (omega arith), count (goal.at.write_number-requires-2 c).After-size_of) (room_after (first (goal.at.write_number-requires-2 c).After-write_number) (_ ∷ []) _ c.requires.1)

-- and the count after it
second : (c : After-write_number-2) → (let a = c.args in
    Wrote record_more a.self.now.bytes.now a.self.now.at (a.execution ∷ length (members count_max a.set) ∷ []) c.write_number-2.new.self.bytes.now c.write_number-2.new.self.at)
second c = wrote-more (first (goal.at-After-write_number-2 c).After-write_number) (rw (count (goal.at-After-write_number-2 c).After-size_of) at (wrote-number record_more c.size_of.result (many (goal.at-After-write_number-2 c).After-size_of) (omega arith) c.write_number-2.ensures.place c.write_number-2.ensures.bytes_after))

pub write_members-requires : goal.write_members-requires
write_members-requires c = rw (length-members count_max c.args.set, ← (members-size c.args.set)) (room-rest (second (goal.at.write_members-requires c).After-write_number-2) (members count_max c.args.set) c.requires.1)

pub returns : goal.returns
returns c = let w = wrote-more (second (goal.at.returns c).After-write_number-2) (wrote-members _ (c.write_members.ensures.place ∙ ap (λ (k : ℕ). c.write_number-2.new.self.at + k) (length-members count_max c.args.set)) c.write_members.ensures.bytes_after) in
    record { same_reference = c.write_members.ensures.same_reference ∙ c.write_number-2.ensures.same_reference ∙ c.write_number.ensures.same_reference; place = w.place; bytes_after = w.bytes }
