-- Reading a plan record into lent words: 16, then the record's refusals "as met".
use Rattle.std.specs.Prelude.{List, ◌++◌, ℕ, ltb, length, drop}
use Rattle.plain.specs.Pick.{pick}
use Rattle.refusals.specs.Numbers.{few_words}
use Rattle.refusals.specs.declared.Refusal.{Refusal}
use Rattle.refusals.specs.Refusal.{refusal}
use Rattle.refusals.specs.Answer.{accepted, refused}
use Rattle.refusals.specs.After.{After}
use Rattle.plans.specs.Words.{words_max}
use Rattle.planreaders.specs.Plan.{on_plan, plan_of}

-- "on a refusal no word is written"
abbrev pub unread : List ℕ → Refusal → After (List ℕ)
unread words r = record { answer = refused r; lent = words }

-- the words of a plan at the front of those that are lent; those past them as they were
abbrev pub filled_with : (plan words : List ℕ) → List ℕ
filled_with plan words = plan ++ drop (length plan) words

-- "Reader and judge give the id and fill the plan's words"
abbrev pub filled : List ℕ → (id : ℕ) (plan : List ℕ) → After (List ℕ)
filled words id plan = record { answer = accepted id; lent = filled_with plan words }

-- reading the plan record `bytes` into `words`
unfoldable pub read_plan_call : List ℕ → List ℕ → After (List ℕ)
read_plan_call bytes words = pick (ltb (length words) words_max) (unread words (refusal few_words 0)) (on_plan (unread words) (filled words) (plan_of bytes))
