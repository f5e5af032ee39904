-- `judges::Task::judge_plan` meets its contract: 16 first, then the refusal of the plan record, and else its words are judged, which stand at the front of those it was read into.
use mathlib.Core.Path.{◌≡◌, sym, ap, ◌∙◌}
use native.Mathlib.Omega.{arith}
use lib.ListN.{replicate}
use lib.Seq.{length-take-le}
use Rattle.refusals.proofs.Out.{goes-out}
use Rattle.tables.specs.Cost.{costed}
use Rattle.plans.specs.Words.{words_max}
use Rattle.planreaders.specs.Plan.{on_plan, plan_of}
use Rattle.planreaders.specs.Reading.{unread}
use Rattle.planreaders.proofs.Plans.{refused-told}
use Rattle.planreaders.proofs.Aside.{Aside, read-aside}
use Rattle.judges.specs.Judging.{judged, judged_for}
use Rattle.judges.proofs.Tests.{few_words_lem, words-enough}
use Rattle.judges.proofs.Task.judge_plan.Goals as goal
use Rattle.judges.proofs.Task.judge_plan.Goals.{Else-words-lt-WORDS_MAX, In_ok-record}

pub returns-then-words-lt-WORDS_MAX : goal.returns-then-words-lt-WORDS_MAX
returns-then-words-lt-WORDS_MAX c =
    let a = c.args in
    rw c.at.ensures (sym (few_words_lem a.plan.now a.words.now (costed a.self.table.now a.self.cost) c.if-words-lt-WORDS_MAX.true))

-- with words enough
call : (c : Else-words-lt-WORDS_MAX) → (let a = c.args in let t = costed a.self.table.now a.self.cost in judged_for a.plan.now a.words.now t ≡ on_plan (unread a.words.now) (judged a.words.now t) (plan_of a.plan.now))
call c = words-enough c.args.plan.now c.args.words.now (costed c.args.self.table.now c.args.self.cost) c.if-words-lt-WORDS_MAX.false

pub returns-in_err-record : goal.returns-in_err-record
returns-in_err-record c =
    let a = c.args in
    let t = costed a.self.table.now a.self.cost in
    rw (goes-out _ _ c.from_residual.ensures.1)
    (sym (call (goal.at.returns-in_err-record c).Else-words-lt-WORDS_MAX ∙ ap (on_plan (unread a.words.now) (judged a.words.now t)) (refused-told (plan_of a.plan.now) c.in_err-record.ensures.value)))

-- the words that were read
aside : (c : In_ok-record) → Aside c.args.plan.now c.read_words.new.words words_max c.in_ok-record.record.id c.in_ok-record.record.words
aside c = read-aside _ (replicate words_max 0) (omega arith) c.in_ok-record.ensures.value c.in_ok-record.ensures.by_index

pub slice_bounds-found-end : goal.slice_bounds-found-end
slice_bounds-found-end c = let a = aside (goal.at.slice_bounds-found-end c).In_ok-record in omega (arith, a.few, a.size)

pub slice_bounds-judge_words-end : goal.slice_bounds-judge_words-end
slice_bounds-judge_words-end c = sym (length-take-le _ _ (let a = aside (goal.at.slice_bounds-judge_words-end c).In_ok-record in omega (arith, a.few, a.size)))

pub judge_words-requires : goal.judge_words-requires
judge_words-requires c =
    let a = aside (goal.at.judge_words-requires c).In_ok-record in
    let s = a.shape in
    rw a.front (c.requires, record { segments = s.segments-high; nodes = s.nodes-high; size = s.size; small = s.small }, c.if-words-lt-WORDS_MAX.false)

pub returns : goal.returns
returns c =
    let a = aside (goal.at.returns c).In_ok-record in
    let w = c.args.words.now in
    let t = costed c.args.self.table.now c.args.self.cost in
    c.judge_words.ensures
    ∙ ap (judged w t c.in_ok-record.record.id) a.front
    ∙ sym (call (goal.at.returns c).Else-words-lt-WORDS_MAX ∙ ap (on_plan (unread w) (judged w t)) a.is)
