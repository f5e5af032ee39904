-- `planwriters::write_numbers` meets its contract: its parts are written one after the other, and there is room for each.
use mathlib.Core.Path.{◌≡◌, ◌∙◌}
use mathlib.Core.List.{[], ◌∷◌, ◌++◌}
use native.Mathlib.Nat.{zero-add}
use native.Mathlib.Omega.{arith}
use lib.ListN.{take, drop}
use Rattle.plain.specs.At.{at}
use Rattle.numbers.specs.Number.{plan_more}
use Rattle.numbers.proofs.Written.{Wrote}
use Rattle.planwriters.specs.Writing.{numbers_of}
use Rattle.planwriters.specs.Inner.Parts.{segment_words, node_words}
use Rattle.planwriters.proofs.Numbers.{front-two, third-word}
use Rattle.planwriters.proofs.Parts.{segments-part, nodes-part, part-fits, wrote-part, head_small, segments-small, count_small, nodes-small, whole_room, id-room, wrote-id, parts-numbers, nodes-end}
use Rattle.planwriters.proofs.write_numbers.Goals as goal
use Rattle.planwriters.proofs.write_numbers.Goals.{After-write_number-head_at, After-write_values-count_at, After-write_values-nodes_at, After-write_values-segments_at, Start}

pub write_number-head_at-requires : goal.write_number-head_at-requires
write_number-head_at-requires c = id-room c.requires

-- the id is written
id-put : (c : After-write_number-head_at) → (let a = c.args in Wrote plan_more a.bytes.now 0 (a.id ∷ []) c.write_number-head_at.new.bytes c.write_number-head_at.result)
id-put c = wrote-id c.requires c.write_number-head_at.ensures.value c.write_number-head_at.ensures.bytes_after

-- the words that Q and the segments' count are, and the nodes' count
two : (s : Start) → (let words = s.args.words.now in take 2 words ≡ at words 0 ∷ at words 1 ∷ [])
two s = front-two s.args.words.now (omega (arith, s.requires.counted.enough))

third : (s : Start) → (let words = s.args.words.now in take 1 (drop 2 words) ≡ at words 2 ∷ [])
third s = third-word s.args.words.now (omega (arith, s.requires.counted.enough))

pub write_values-segments_at-requires : goal.write_values-segments_at-requires
write_values-segments_at-requires c = let words = c.args.words.now in
    part-fits (id-put (goal.at.write_values-segments_at-requires c).After-write_number-head_at) (two (goal.at.write_values-segments_at-requires c).Start) (segment_words words ++ at words 2 ∷ node_words words) (head_small c.requires) (whole_room c.requires)

head-put : (c : After-write_values-segments_at) → (let a = c.args in let words = a.words.now in
    Wrote plan_more a.bytes.now 0 (a.id ∷ at words 0 ∷ at words 1 ∷ []) c.write_values-segments_at.new.bytes c.write_values-segments_at.result)
head-put c = wrote-part (id-put (goal.at.After-write_values-segments_at c).After-write_number-head_at) (two (goal.at.After-write_values-segments_at c).Start) c.write_values-segments_at.ensures.value c.write_values-segments_at.ensures.bytes_after

pub write_values-count_at-requires : goal.write_values-count_at-requires
write_values-count_at-requires c = let words = c.args.words.now in
    part-fits (head-put (goal.at.write_values-count_at-requires c).After-write_values-segments_at) (segments-part words) (at words 2 ∷ node_words words) (segments-small c.requires) (whole_room c.requires)

segments-put : (c : After-write_values-count_at) → (let a = c.args in let words = a.words.now in
    Wrote plan_more a.bytes.now 0 (a.id ∷ at words 0 ∷ at words 1 ∷ segment_words words) c.write_values-count_at.new.bytes c.write_values-count_at.result)
segments-put c = wrote-part (head-put (goal.at.After-write_values-count_at c).After-write_values-segments_at) (segments-part c.args.words.now) c.write_values-count_at.ensures.value c.write_values-count_at.ensures.bytes_after

pub write_values-nodes_at-requires : goal.write_values-nodes_at-requires
write_values-nodes_at-requires c = let words = c.args.words.now in
    part-fits (segments-put (goal.at.write_values-nodes_at-requires c).After-write_values-count_at) (third (goal.at.write_values-nodes_at-requires c).Start) (node_words words) (count_small c.requires) (whole_room c.requires)

count-put : (c : After-write_values-nodes_at) → (let a = c.args in let words = a.words.now in
    Wrote plan_more a.bytes.now 0 (a.id ∷ at words 0 ∷ at words 1 ∷ (segment_words words ++ (at words 2 ∷ []))) c.write_values-nodes_at.new.bytes c.write_values-nodes_at.result)
count-put c = wrote-part (segments-put (goal.at.After-write_values-nodes_at c).After-write_values-count_at) (third (goal.at.After-write_values-nodes_at c).Start) c.write_values-nodes_at.ensures.value c.write_values-nodes_at.ensures.bytes_after

pub write_values-requires : goal.write_values-requires
write_values-requires c = let words = c.args.words.now in
    part-fits (count-put (goal.at.write_values-requires c).After-write_values-nodes_at) (nodes-part words) [] (nodes-small c.requires) (rw (← (nodes-end c.args.id words)) at (whole_room c.requires))

pub returns : goal.returns
returns c = let words = c.args.words.now in
    let all : Wrote plan_more c.args.bytes.now 0 (numbers_of c.args.id words) c.write_values.new.bytes c.write_values.result =
    rw (parts-numbers c.args.id words) at (wrote-part (count-put (goal.at.returns c).After-write_values-nodes_at) (nodes-part words) c.write_values.ensures.value c.write_values.ensures.bytes_after) in
    record { value = all.place ∙ zero-add _; bytes_after = all.bytes }
