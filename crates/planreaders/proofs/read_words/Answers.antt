-- `planreaders::read_words` meets its contract: id, Q and the lists are those of `plan_of`, each read from the place after the one before; the lists fill the
-- words behind the head, one behind the other, and the head is written last.
use Prim.Native.Nat.{ℕ, ◌+◌, ◌-◌, ◌*◌, ◌≤◌}
use mathlib.Core.Path.{◌≡◌, sym, ap₂, ◌∙◌}
use mathlib.Core.List.{List, ◌∷◌, ◌++◌}
use native.Mathlib.Omega.{arith}
use lib.ListN.{length, drop, length-drop}
use borrow.Rule.Slice.PartMut.{put_mid}
use Rattle.plain.specs.At.{at}
use Rattle.refusals.proofs.Out.{goes-out}
use Rattle.tables.specs.Limits.{count_max}
use Rattle.planreaders.specs.Plan.{several, list_at}
use Rattle.planreaders.specs.Reading.{filled_with}
use Rattle.planreaders.proofs.Filling.{room-behind, after-length, fill-plan}
use Rattle.planreaders.proofs.Lists.{value-inside, list_read, list-refused, Listed, listed}
use Rattle.planreaders.proofs.Plans.{Head, head_of, Both, both_of, id-out, over-out, segments-out, nodes-out, plan-follows, plan-read, words_size, told-refused, told-read}
use Rattle.planreaders.proofs.read_words.Goals as goal
use Rattle.planreaders.proofs.read_words.Goals.{In_ok-id, In_ok-over, In_ok-segments, In_ok-nodes}

pub returns-in_err-id : goal.returns-in_err-id
returns-in_err-id c = let t = told-refused (id-out c.args.plan.now (sym c.in_err-id.ensures)) in rw (goes-out _ _ c.from_residual.ensures.1) (record { value = t.0; by_index = t.1 })

pub read_value-requires-2 : goal.read_value-requires-2
read_value-requires-2 c = (value-inside c.args.plan.now 0 _ _ (sym c.in_ok-id.ensures) (omega arith)).1

pub returns-in_err-over : goal.returns-in_err-over
returns-in_err-over c =
    let t = told-refused (over-out c.args.plan.now (sym c.in_ok-id.ensures) (sym c.in_err-over.ensures)) in
    rw (goes-out _ _ c.from_residual-in_err-over.ensures.1) (record { value = t.0; by_index = t.1 })

head : (c : In_ok-over) → Head c.args.plan.now c.in_ok-id.id.value c.in_ok-over.over.value c.in_ok-over.over.next
head c = head_of c.args.plan.now (sym c.in_ok-id.ensures) (sym c.in_ok-over.ensures)

pub read_list-requires : goal.read_list-requires
read_list-requires c = ((head (goal.at.read_list-requires c).In_ok-over).inside, room-behind 3 (3 * count_max) c.args.words.now (omega arith))

pub returns-in_err-segments : goal.returns-in_err-segments
returns-in_err-segments c =
    let t = told-refused (segments-out c.args.plan.now (head (goal.at.returns-in_err-segments c).In_ok-over) (list-refused _ (sym c.in_err-segments.ensures.value))) in
    rw (goes-out _ _ c.from_residual-in_err-segments.ensures.1) (record { value = t.0; by_index = t.1 })

-- the segments, and the room that they leave
segments : (c : In_ok-segments) → (values : List ℕ) × (list_at c.args.plan.now c.in_ok-over.over.next ≡ several values c.in_ok-segments.segments.next) × (at values 0 ≡ c.in_ok-segments.segments.value)
segments c = list_read _ (sym c.in_ok-segments.ensures.value)

shape : (c : In_ok-segments) → Listed c.args.plan.now (segments c).0 c.in_ok-segments.segments.next
shape c = listed _ _ (segments c).1 (head (goal.at.In_ok-segments c).In_ok-over).inside

few : (c : In_ok-segments) → c.in_ok-segments.segments.value ≤ count_max
few c = rw (segments c).2 at (shape c).high

size : (c : In_ok-segments) → 3 + length (drop 1 (segments c).0) ≡ 3 + 3 * c.in_ok-segments.segments.value
size c = omega (arith, length-drop 1 (segments c).0, (shape c).size, (segments c).2)

long : (c : In_ok-segments) → length (put_mid 3 (length c.args.words.now - 3) c.args.words.now c.read_list.new.words) ≡ length c.args.words.now
long c =
    let t = segments c in
    after-length (drop 1 t.0) c.args.words.now c.read_list.new.words (omega arith) (c.in_ok-segments.ensures.by_index t.0 _ t.1) (size c) (omega (arith, few c))

pub overflow_mul-behind : goal.overflow_mul-behind
overflow_mul-behind c = omega (arith, few (goal.at.overflow_mul-behind c).In_ok-segments)

pub overflow_add-behind : goal.overflow_add-behind
overflow_add-behind c = omega (arith, few (goal.at.overflow_add-behind c).In_ok-segments)

pub offset_bounds-words-behind : goal.offset_bounds-words-behind
offset_bounds-words-behind c = omega (arith, few (goal.at.offset_bounds-words-behind c).In_ok-segments)

pub slice_bounds-read_list-count-2 : goal.slice_bounds-read_list-count-2
slice_bounds-read_list-count-2 c = let p = (goal.at.slice_bounds-read_list-count-2 c).In_ok-segments in omega (arith, few p, long p)

pub slice_bounds-read_list-start-2 : goal.slice_bounds-read_list-start-2
slice_bounds-read_list-start-2 c = let p = (goal.at.slice_bounds-read_list-start-2 c).In_ok-segments in omega (arith, few p, long p)

pub read_list-requires-2 : goal.read_list-requires-2
read_list-requires-2 c = let p = (goal.at.read_list-requires-2 c).In_ok-segments in
    ((shape p).inside, room-behind (3 + 3 * c.in_ok-segments.segments.value) (3 * count_max) _ (omega (arith, few p, long p)))

pub returns-in_err-nodes : goal.returns-in_err-nodes
returns-in_err-nodes c =
    let p = goal.at.returns-in_err-nodes c in
    let t = told-refused (nodes-out c.args.plan.now (head p.In_ok-over) (segments p.In_ok-segments).1 (list-refused _ (sym c.in_err-nodes.ensures.value))) in
    rw (goes-out _ _ c.from_residual-in_err-nodes.ensures.1) (record { value = t.0; by_index = t.1 })

-- the nodes
nodes : (c : In_ok-nodes) → (values : List ℕ) × (list_at c.args.plan.now c.in_ok-segments.segments.next ≡ several values c.in_ok-nodes.nodes.next) × (at values 0 ≡ c.in_ok-nodes.nodes.value)
nodes c = list_read _ (sym c.in_ok-nodes.ensures.value)

both : (c : In_ok-nodes) → Both c.args.plan.now c.in_ok-over.over.next (segments (goal.at.In_ok-nodes c).In_ok-segments).0 (nodes c).0 c.in_ok-nodes.nodes.next
both c = let p = goal.at.In_ok-nodes c in both_of c.args.plan.now _ (head p.In_ok-over).inside (segments p.In_ok-segments).1 (nodes c).1

pub returns-then-nodes-plan : goal.returns-then-nodes-plan
returns-then-nodes-plan c =
    let p = goal.at.returns-then-nodes-plan c in
    let t = told-refused (plan-follows (head p.In_ok-over) (both p.In_ok-nodes) c.if-nodes-plan.true) in
    rw c.at.ensures (record { value = t.0; by_index = t.1 })

most : (c : In_ok-nodes) → c.in_ok-nodes.nodes.value ≤ count_max
most c = rw (nodes c).2 at (both c).two.high

pub overflow_mul-result : goal.overflow_mul-result
overflow_mul-result c = omega (arith, most (goal.at.overflow_mul-result c).In_ok-nodes)

pub overflow_add-result : goal.overflow_add-result
overflow_add-result c = let p = goal.at.overflow_add-result c in omega (arith, few p.In_ok-segments, most p.In_ok-nodes)

pub returns : goal.returns
returns c =
    let p = goal.at.returns c in
    let w = c.args.words.now in
    let q = c.in_ok-over.over.value in
    let s = segments p.In_ok-segments in
    let n = nodes p.In_ok-nodes in
    let ws = drop 1 s.0 ++ drop 1 n.0 in
    let stored =
    fill-plan (drop 1 s.0) w c.read_list.new.words (omega arith) (c.in_ok-segments.ensures.by_index s.0 _ s.1) (size p.In_ok-segments) (omega (arith, few p.In_ok-segments))
    (drop 1 n.0) c.read_list-2.new.words q c.in_ok-segments.segments.value c.in_ok-nodes.nodes.value (c.in_ok-nodes.ensures.by_index n.0 _ n.1)
    ∙ ap₂ (λ (x y : ℕ). filled_with (q ∷ x ∷ y ∷ ws) w) (sym s.2) (sym n.2) in
    let t = told-read (plan-read (head p.In_ok-over) (both p.In_ok-nodes) c.if-nodes-plan.false) (rw (s.2, n.2) at (words_size q (both p.In_ok-nodes))) stored in
    record { value = t.0; by_index = t.1 }
