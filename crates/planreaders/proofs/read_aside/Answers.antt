-- `planreaders::read_aside` meets its contract: too few words are refused; a refusal of the record leaves the words as they were, and the plan that stands at the
-- front of the spare ones is copied.
use mathlib.Core.Path.{◌≡◌, sym, ap, ◌∙◌}
use mathlib.Core.List.{List}
use Prim.Native.Nat.{ℕ}
use native.Mathlib.Omega.{arith}
use Rattle.refusals.specs.Answer.{accepted}
use Rattle.refusals.proofs.Out.{goes-out}
use Rattle.planreaders.specs.Plan.{on_plan, plan_of}
use Rattle.planreaders.specs.Reading.{filled_with, unread, filled, read_plan_call}
use Rattle.planreaders.proofs.Plans.{refused-told, call-few, call-on}
use Rattle.planreaders.proofs.Aside.{Aside, read-aside}
use Rattle.planreaders.proofs.read_aside.Goals as goal
use Rattle.planreaders.proofs.read_aside.Goals.{In_ok-read, Else-words-lt-WORDS_MAX}

pub returns-then-words-lt-WORDS_MAX : goal.returns-then-words-lt-WORDS_MAX
returns-then-words-lt-WORDS_MAX c = rw c.at.ensures (sym (call-few c.args.plan.now c.args.words.now c.if-words-lt-WORDS_MAX.true))

-- enough words are lent
call : (c : Else-words-lt-WORDS_MAX) → (let a = c.args in
    read_plan_call a.plan.now a.words.now ≡ on_plan (unread a.words.now) (filled a.words.now) (plan_of a.plan.now))
call c = call-on c.args.plan.now c.args.words.now c.if-words-lt-WORDS_MAX.false

pub returns-in_err-read : goal.returns-in_err-read
returns-in_err-read c =
    let w = c.args.words.now in
    let out = refused-told (plan_of c.args.plan.now) c.in_err-read.ensures.value in
    rw (goes-out _ _ c.from_residual.ensures.1) (sym (call (goal.at.returns-in_err-read c).Else-words-lt-WORDS_MAX ∙ ap (on_plan (unread w) (filled w)) out))

aside : (c : In_ok-read) → Aside c.args.plan.now c.read_words.new.words 387 c.in_ok-read.read.id c.in_ok-read.read.words
aside c = read-aside c.args.plan.now _ (omega arith) c.in_ok-read.ensures.value c.in_ok-read.ensures.by_index

pub copy_words-requires : goal.copy_words-requires
copy_words-requires c = let p = aside (goal.at.copy_words-requires c).In_ok-read in omega (arith, p.few, p.size, c.if-words-lt-WORDS_MAX.false)

pub returns : goal.returns
returns c =
    let w = c.args.words.now in
    let p = aside (goal.at.returns c).In_ok-read in
    ap (λ (x : List ℕ). record { answer = accepted c.in_ok-read.read.id; lent = x }) (c.copy_words.ensures ∙ ap (λ (x : List ℕ). filled_with x w) p.front)
    ∙ sym (call (goal.at.returns c).Else-words-lt-WORDS_MAX ∙ ap (on_plan (unread w) (filled w)) p.is)
