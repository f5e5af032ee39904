-- `planwriters::before_writing` meets its contract: its tests are the definition's, in their order, and the id and the words are as small and as long as the
-- numbers that they become.
use Rattle.std.specs.Prelude.{Result, Ok, Err, ⊤}
use Prim.Native.Nat.{◌+◌}
use mathlib.Core.Path.{◌≡◌, refl, ap, ap₂, ◌∙◌}
use mathlib.Core.Logic.{inl, inr}
use native.Mathlib.Omega.{arith}
use borrow.Author.Tests.{lt-ltb, le-ltb}
use lib.Dec.{ltb}
use lib.ListN.{length, take, length-take}
use Rattle.plain.specs.Pick.{pick}
use Rattle.plain.proofs.Tests.{pick_yes, pick_no, passed, failed, between-true}
use Rattle.refusals.specs.Numbers.{wrong_length}
use Rattle.refusals.specs.Refusal.{refusal}
use Rattle.refusals.specs.declared.Refusal.{Refusal}
use Rattle.planwriters.specs.Writing.{plan_record_of, after_counts, before_writing}
use Rattle.planwriters.specs.Inner.Parts.{count_of, Whole}
use Rattle.planwriters.specs.Inner.Fits.{Small, Counted}
use Rattle.planwriters.proofs.Small.{small-values, values-small}
use Rattle.planwriters.proofs.Numbers.{counted-whole, big-number, parts-numbers-small, numbers-size, plan-length}
use Rattle.planwriters.proofs.before_writing.Goals as goal
use Rattle.planwriters.proofs.before_writing.Goals.{After-size_of, Else-not-are_small, Else-not-is_count-2, then-id-ge-VALUE_LIMIT-via-else-id-ge-VALUE_LIMIT+then-not-are_small, then-id-ge-VALUE_LIMIT-via-then-id-ge-VALUE_LIMIT}

counted : (c : Else-not-is_count-2) → Counted c.args.words.now
counted c =
    let segments = between-true _ _ _ (passed c.is_count.ensures c.if-not-is_count.false) in
    let nodes = between-true _ _ _ (passed c.is_count-2.ensures c.if-not-is_count-2.false) in
    record { enough = c.if-words-lt-WORDS_MAX.false; segments-low = segments.0; segments-high = segments.1; nodes-low = nodes.0; nodes-high = nodes.1 }

whole : (c : Else-not-is_count-2) → Whole c.args.words.now
whole c = counted-whole (counted c)

-- then the rules after them decide
later : (c : Else-not-is_count-2) {o : Result ⊤ Refusal} → o ≡ after_counts c.args.words.now c.args.room c.args.id → o ≡ before_writing c.args.words.now c.args.room c.args.id
unfolding before_writing
later c e = pick_no _ (le-ltb _ _ c.if-words-lt-WORDS_MAX.false) (pick_yes _ (passed c.is_count.ensures c.if-not-is_count.false)
    (pick_yes _ (passed c.is_count-2.ensures c.if-not-is_count-2.false) e))

pub returns-then-id-ge-VALUE_LIMIT : goal.returns-then-id-ge-VALUE_LIMIT
returns-then-id-ge-VALUE_LIMIT c = later (goal.at.returns-then-id-ge-VALUE_LIMIT c).Else-not-is_count-2 (pick_no _ (big-number c.args.words.now (whole (goal.at.returns-then-id-ge-VALUE_LIMIT c).Else-not-is_count-2) _ (elim c.then-id-ge-VALUE_LIMIT.branch [ then-id-ge-VALUE_LIMIT-via-then-id-ge-VALUE_LIMIT w ↦ inl w.if-id-ge-VALUE_LIMIT.true | then-id-ge-VALUE_LIMIT-via-else-id-ge-VALUE_LIMIT+then-not-are_small w ↦ inr (failed w.are_small.ensures w.if-not-are_small.true) ])) (ap Err c.at-then-id-ge-VALUE_LIMIT.ensures))

small-words : (c : Else-not-are_small) → (let words = c.args.words.now in Small (take (count_of words) words))
small-words c = small-values _ (passed c.are_small.ensures c.if-not-are_small.false)

-- the rule of the room decides,
last : (c : Else-not-are_small) {o : Result ⊤ Refusal} → (let a = c.args in
    o ≡ pick (ltb a.room (length (plan_record_of a.id a.words.now))) (Err (refusal wrong_length a.room)) (Ok tt) → o ≡ before_writing a.words.now a.room a.id)
last c q = later (goal.at.Else-not-are_small c).Else-not-is_count-2 (pick_yes _ (values-small _ λ i h. (parts-numbers-small c.args.words.now (whole (goal.at.Else-not-are_small c).Else-not-is_count-2) _ c.if-id-ge-VALUE_LIMIT.false (small-words c)).each i) q)

pub size_of-requires : goal.size_of-requires
size_of-requires c = (small-words (goal.at.size_of-requires c).Else-not-are_small, omega (arith, length-take (count_of c.args.words.now) c.args.words.now, (counted (goal.at.size_of-requires c).Else-not-is_count-2).segments-high, (counted (goal.at.size_of-requires c).Else-not-is_count-2).nodes-high))

-- and the size is the record's
size : (c : After-size_of) → (let a = c.args in
    c.length_of.result + c.size_of.result ≡ length (plan_record_of a.id a.words.now))
size c = ap₂ ◌+◌ c.length_of.ensures c.size_of.ensures ∙ numbers-size c.args.words.now (whole (goal.at.After-size_of c).Else-not-is_count-2) _ c.if-id-ge-VALUE_LIMIT.false

pub overflow_add-length_of : goal.overflow_add-length_of
overflow_add-length_of c = omega (arith, size (goal.at.overflow_add-length_of c).After-size_of, plan-length c.args.id c.args.words.now (counted (goal.at.overflow_add-length_of c).Else-not-is_count-2).segments-high (counted (goal.at.overflow_add-length_of c).Else-not-is_count-2).nodes-high)

pub returns-then-room-length_of : goal.returns-then-room-length_of
returns-then-room-length_of c = last (goal.at.returns-then-room-length_of c).Else-not-are_small (pick_yes _ (lt-ltb _ _ (rw (size (goal.at.returns-then-room-length_of c).After-size_of) at c.if-room-length_of.true)) (ap Err c.at-then-room-length_of.ensures))

pub returns : goal.returns
returns c = last (goal.at.returns c).Else-not-are_small (pick_no _ (le-ltb _ _ (rw (size (goal.at.returns c).After-size_of) at c.if-room-length_of.false)) refl)
