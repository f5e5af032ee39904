-- The input of plancheck: "a task record and a plan record, each preceded by its length as in e)".
use Rattle.std.specs.Prelude.{ℕ, ◌+◌, List, ltb, length}
use Rattle.plain.specs.Pick.{pick}
use Rattle.refusals.specs.Numbers.{bytes_follow}
use Rattle.refusals.specs.declared.Refusal.{Refusal}
use Rattle.refusals.specs.Refusal.{refusal}
use Rattle.records.specs.Step.{and_then}
use Rattle.files.specs.File.{record_at, part_of}

-- the second record behind the first, which lies from `begin` on; "bytes after the second record are 9 at the first of them": a refusal goes out by `refuse`, else
-- `go` goes on with the two records
unfoldable pub on_second : {A : Type 0} → (Refusal → A) → (go : (bytes plan : List ℕ) → A) → (input : List ℕ) (begin size : ℕ) → A
on_second refuse go input begin size =
    and_then refuse (record_at input (begin + size)) λ size' begin'.
    pick (ltb (begin' + size') (length input)) (refuse (refusal bytes_follow (begin' + size')))
    (go (part_of input begin size) (part_of input begin' size'))

-- "a damaged length, or a record that runs past the input, is refused as in e)": the first record, and then the second
unfoldable pub on_pair : {A : Type 0} → (Refusal → A) → (go : (bytes plan : List ℕ) → A) → (input : List ℕ) → A
on_pair refuse go input = and_then refuse (record_at input 0) λ size begin. on_second refuse go input begin size
