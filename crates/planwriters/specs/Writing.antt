-- Writing a plan's words as a plan record: "The writer gives 16, 24 (at the word's index), 28, .. and 19 last."
use Rattle.std.specs.Prelude.{ℕ, ◌+◌, ◌*◌, ◌^◌, Bool, List, ◌∷◌, ◌++◌, Result, Ok, Err, ⊤, ltb, length, take, drop}
use Rattle.plain.specs.At.{at}
use Rattle.plain.specs.Pick.{pick}
use Rattle.plain.specs.Tests.{between, all_to}
use Rattle.refusals.specs.Numbers.{few_words, wrong_length, bad_plan, big_word}
use Rattle.refusals.specs.declared.Refusal.{Refusal}
use Rattle.refusals.specs.Refusal.{refusal, on_outcome}
use Rattle.refusals.specs.Answer.{accepted, refused}
use Rattle.refusals.specs.After.{After}
use Rattle.tables.specs.Limits.{count_max}
use Rattle.numbers.specs.Number.{plan_more}
use Rattle.numbers.specs.Shortest.{all_shortest}
use Rattle.plans.specs.Words.{words_max}

-- "id, Q, then the segments and nodes as the plan's words give them, each list after its count": the numbers of the record, in order
abbrev pub numbers_of : (id : ℕ) (words : List ℕ) → List ℕ
numbers_of id words = id ∷ at words 0 ∷ at words 1 ∷ take (3 * at words 1) (drop 3 words) ++ at words 2 ∷ take (3 * at words 2) (drop (3 + 3 * at words 1) words)

-- "shortest form only": its bytes
abbrev pub plan_record_of : (id : ℕ) (words : List ℕ) → List ℕ
plan_record_of id words = all_shortest plan_more (numbers_of id words)

-- no plan record is longer: its id, Q and at most 64 segments' and 64 nodes' triples take at most 9 bytes each, and its two counts 1
abbrev pub plan_max : ℕ
plan_max = 9 * (2 + 3 * count_max + 3 * count_max) + 2

-- the first value that nine groups do not hold
abbrev pub value_limit : ℕ
value_limit = 2 ^ 63

-- "28, an id or written word of 2^63 or more": none is
unfoldable pub are_small : (values : List ℕ) → Bool
are_small values = all_to (length values) (λ k. ltb (at values k) value_limit)

-- a rule: where it is broken, its refusal; else the rules after it
abbrev pub unless_broken : (kept : Bool) (number place : ℕ) → Result ⊤ Refusal → Result ⊤ Refusal
unless_broken kept number place later = pick kept later (Err (refusal number place))

-- the rules of a plan whose counts are in range: 28; "19 last", where `room` bytes are too few
abbrev pub after_counts : (words : List ℕ) (room id : ℕ) → Result ⊤ Refusal
after_counts words room id =
    unless_broken (are_small (numbers_of id words)) big_word 0
    (pick (ltb room (length (plan_record_of id words))) (Err (refusal wrong_length room)) (Ok tt))

-- 16; 24, "a list's count is outside 1..64", at the word's index; then those
unfoldable pub before_writing : (words : List ℕ) (room id : ℕ) → Result ⊤ Refusal
before_writing words room id =
    pick (ltb (length words) words_max) (Err (refusal few_words 0))
    (unless_broken (between 1 (at words 1) count_max) bad_plan 1
    (unless_broken (between 1 (at words 2) count_max) bad_plan 2
    (after_counts words room id)))

-- "A byte writer .. returns the number of bytes it wrote; bytes past them keep their content"
abbrev pub written : (record-bytes bytes : List ℕ) → After (List ℕ)
written record-bytes bytes = record { answer = accepted (length record-bytes); lent = record-bytes ++ drop (length record-bytes) bytes }

-- "nothing is written then"
abbrev pub unwritten : (bytes : List ℕ) → Refusal → After (List ℕ)
unwritten bytes r = record { answer = refused r; lent = bytes }

-- writing the plan of `words` into `bytes`, with an id
unfoldable pub write_plan_call : (words bytes : List ℕ) (id : ℕ) → After (List ℕ)
write_plan_call words bytes id = on_outcome (unwritten bytes) (written (plan_record_of id words) bytes) (before_writing words (length bytes) id)
