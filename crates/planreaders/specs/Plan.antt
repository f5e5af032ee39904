-- A plan record: "id, Q, then the segments and nodes as the plan's words give them, each list after its count".
use Rattle.std.specs.Prelude.{ℕ, zero, suc, ◌*◌, List, [], ◌∷◌, ◌++◌, ltb, length, drop}
use Rattle.plain.specs.At.{at}
use Rattle.plain.specs.Pick.{pick}
use Rattle.refusals.specs.Numbers.{bytes_follow, bad_plan}
use Rattle.refusals.specs.declared.Refusal.{Refusal}
use Rattle.refusals.specs.Refusal.{refusal}
use Rattle.tables.specs.Limits.{count_max}
use Rattle.numbers.specs.Number.{plan_more}
use Rattle.records.specs.Step.{and_then}
use Rattle.records.specs.Ranged.{whole_in, ranged_in}

-- numbers that were read one after the other, with the place after them; or the refusal of the first that was not
pub data Several : Type 0 where
  several : (values : List ℕ) (next : ℕ) → Several
  refused : Refusal → Several

-- these, and then `more` of them and the place after them
abbrev pub on_several : {A : Type 0} → (Refusal → A) → Several → (List ℕ → ℕ → A) → A
on_several refuse (several values next) more = more values next
on_several refuse (refused r) more = refuse r

-- "values of up to nine groups here, shortest form only": k of them, behind those that were read already
unfoldable pub values_from : (k : ℕ) (read : List ℕ) → List ℕ → ℕ → Several
values_from zero read bytes at = several read at
values_from (suc k) read bytes at = and_then refused (whole_in plan_more bytes at) λ v next. values_from k (read ++ v ∷ []) bytes next

-- "24, a list's count is outside 1..64, at that number"; then so many triples: the count and the numbers after it
unfoldable pub list_at : List ℕ → ℕ → Several
list_at bytes at = and_then refused (ranged_in plan_more bad_plan 1 count_max bytes at) λ count next. values_from (3 * count) (count ∷ []) bytes next

-- "as the plan's words give them": Q, the two counts, and the two lists of triples
abbrev pub words_of : (over : ℕ) (segments nodes : List ℕ) → List ℕ
words_of over segments nodes = over ∷ at segments 0 ∷ at nodes 0 ∷ drop 1 segments ++ drop 1 nodes

-- what a plan record comes to: its id and the plan's words, or a refusal
pub data PlanRead : Type 0 where
  read : (id : ℕ) (words : List ℕ) → PlanRead
  refused : Refusal → PlanRead

-- a refusal goes out by `refuse`, else `go` goes on with the id and the words
abbrev pub on_plan : {A : Type 0} → (Refusal → A) → (ℕ → List ℕ → A) → PlanRead → A
on_plan refuse go (PlanRead.read id words) = go id words
on_plan refuse go (PlanRead.refused r) = refuse r

-- "Nothing follows."
abbrev pub nothing_after : (id : ℕ) (words bytes : List ℕ) (at : ℕ) → PlanRead
nothing_after id words bytes at = pick (ltb at (length bytes)) (PlanRead.refused (refusal bytes_follow at)) (PlanRead.read id words)

-- "id, Q, then the segments and nodes", each list after its count
unfoldable pub plan_of : List ℕ → PlanRead
plan_of bytes =
    and_then PlanRead.refused (whole_in plan_more bytes 0) λ id at₁.
    and_then PlanRead.refused (whole_in plan_more bytes at₁) λ over at₂.
    on_several PlanRead.refused (list_at bytes at₂) λ segments at₃.
    on_several PlanRead.refused (list_at bytes at₃) λ nodes at₄.
    nothing_after id (words_of over segments nodes) bytes at₄
