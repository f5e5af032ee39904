-- A file of records, "each preceded by its length as a number in our groups of seven bits", walked from its front.
use Rattle.std.specs.Prelude.{ℕ, zero, suc, ◌+◌, List, [], ◌∷◌, Result, Ok, Err, ⊤, leb, length, take, drop}
use Rattle.plain.specs.Pick.{pick}
use Rattle.refusals.specs.Numbers.{ended}
use Rattle.refusals.specs.declared.Refusal.{Refusal}
use Rattle.refusals.specs.Refusal.{refusal}
use Rattle.numbers.specs.Number.{number, record_more}
use Rattle.records.specs.Step.{Step, read, and_then}
use Rattle.records.specs.Ranged.{step_of}

-- what stands at a place is the length of a record, and the place after it that record's first byte; "1, 2 and 18 with the place of the length"
unfoldable pub length_at : (file : List ℕ) (at : ℕ) → Step
length_at file at = step_of at at (number record_more (drop at file))

-- the record that stands at a place, by its length and its first byte: "1 at the file's end where the record runs past it"
unfoldable pub record_at : (file : List ℕ) (at : ℕ) → Step
record_at file at =
    and_then Err (length_at file at) λ size begin.
    pick (leb (begin + size) (length file)) (read size begin) (Err (refusal ended (length file)))

-- "the part of the file it occupies"
abbrev pub part_of : (file : List ℕ) (begin size : ℕ) → List ℕ
part_of file begin size = take size (drop begin file)

-- what a walk comes to: the records that it gave back, and whether it came to the file's end
pub record Walk : Type 0 where
  pub records : List (List ℕ)
  pub outcome : Result ⊤ Refusal

-- no record more
abbrev pub ends : Result ⊤ Refusal → Walk
ends o = record { records = []; outcome = o }

-- a record, and then the others
abbrev pub before : List ℕ → Walk → Walk
before bytes w = record { records = bytes ∷ w.records; outcome = w.outcome }

-- "A damaged length ends the walk": from a place on, k records at most
unfoldable pub walk_from : (k : ℕ) (file : List ℕ) (at : ℕ) → Walk
walk_from zero file at = ends (Ok tt)
walk_from (suc k) file at =
    pick (leb (length file) at) (ends (Ok tt))
    (and_then (λ r. ends (Err r)) (record_at file at) λ size begin. before (part_of file begin size) (walk_from k file (begin + size)))

-- a file has no more records than bytes, since each has a byte of length
abbrev pub walk : (file : List ℕ) → Walk
walk file = walk_from (length file) file 0
