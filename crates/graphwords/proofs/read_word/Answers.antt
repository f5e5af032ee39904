-- `graphwords::read_word` meets its contract: the loop goes along one word, and its three ends are the word's end, a byte that is no digit, and the text's end.
use Rattle.std.proofs.Common.{◌<◌, sym, ap, subst, ◌∙◌, length, arith}
use Rattle.graphwords.specs.Inner.Found.{found_in}
use Rattle.graphwords.proofs.Words.{words-ended}
use Rattle.graphwords.proofs.Along.{Along, along-more, found_parted, found_ended, found_other}
use Rattle.graphwords.proofs.read_word.Goals as goal
use Rattle.graphwords.proofs.read_word.Goals.{At-loop-passed}

pub returns-then-place-text : goal.returns-then-place-text
unfolding found_in
returns-then-place-text c = let w = c.word_at-place in sym (ap found_in (w.ensures.same ∙ words-ended c.args.text.now w.result (omega (arith, c.if-place-text.true))))

-- a word begins where the loop does
begins : (c : At-loop-passed) → (c.word_at-place.result < length c.args.text.now)
begins c = omega (arith, c.word_at-place.ensures.inside, c.if-place-text.false)

pub returns-then-is_parting : goal.returns-then-is_parting
returns-then-is_parting c = found_parted _ _ c.loop-passed.invariant c.word_at-place.ensures (begins (goal.at.returns-then-is_parting c).At-loop-passed)
    c.loop-passed-test.true (sym c.is_parting.ensures ∙ c.if-is_parting.true)

pub returns-then-not-is_ascii_digit : goal.returns-then-not-is_ascii_digit
returns-then-not-is_ascii_digit c = found_other _ _ c.loop-passed.invariant c.word_at-place.ensures (begins (goal.at.returns-then-not-is_ascii_digit c).At-loop-passed)
    c.loop-passed-test.true (sym c.is_parting.ensures ∙ c.if-is_parting.false) (sym c.is_ascii_digit.ensures.value ∙ c.if-not-is_ascii_digit.true)

pub loop-passed-preserved : goal.loop-passed-preserved
loop-passed-preserved c = subst (Along _ _ _) (sym c.with_digit-value.ensures)
    (along-more _ _ c.loop-passed.invariant c.loop-passed-test.true (sym c.is_parting.ensures ∙ c.if-is_parting.false)
    (sym c.is_ascii_digit.ensures.value ∙ c.if-not-is_ascii_digit.false))

pub returns : goal.returns
returns c = found_ended _ _ c.loop-passed.invariant c.word_at-place.ensures (begins (goal.at.returns c).At-loop-passed) c.loop-passed-test.false c.loop-passed.auto.passed-end
