-- "Each number is read whole (1, 2) before its range is tried.", and in shortest form (18).
use Rattle.std.specs.Prelude.{ℕ, ◌+◌, ◌&&◌, List, length, drop, leb, Result, Ok, Err}
use Rattle.plain.specs.Pick.{pick}
use Rattle.refusals.specs.Numbers.{ended, too_long, not_shortest}
use Rattle.numbers.specs.declared.Number.{Number}
use Rattle.numbers.specs.declared.Fault.{Fault}
use Rattle.numbers.specs.declared.Fault.TheVariants.{Ended, TooLong, NotShortest}
use Rattle.numbers.specs.Number.{number, record_more}
use Rattle.refusals.specs.Refusal.{refusal}
use Rattle.records.specs.Step.{Step, read, and_then}

-- 1 stands at the "input length", 2 at the "number's first byte", and 18 at the "same place as 2": what was found at `at` of an input of `size` bytes
abbrev pub step_of : ℕ → ℕ → Result Number Fault → Step
step_of size at (Ok r) = read r.value (at + r.length)
step_of size at (Err Ended) = Err (refusal ended size)
step_of size at (Err TooLong) = Err (refusal too_long at)
step_of size at (Err (NotShortest r)) = Err (refusal not_shortest at)

-- "The reader works on the rest of the record from the byte it has reached.": a number of at most `more` bytes after its first
unfoldable pub whole_in : (more : ℕ) → List ℕ → ℕ → Step
whole_in more bytes at = step_of (length bytes) at (number more (drop at bytes))

-- "before its range is tried": outside low..high it is refused by `broken`, at "that number"
unfoldable pub ranged_in : (more : ℕ) → ℕ → ℕ → ℕ → List ℕ → ℕ → Step
ranged_in more broken low high bytes at =
    and_then Err (whole_in more bytes at) λ v next.
    pick (leb low v && leb v high) (read v next) (Err (refusal broken at))

-- a task record's number, and its range
abbrev pub whole : List ℕ → ℕ → Step
whole = whole_in record_more

abbrev pub ranged : ℕ → ℕ → ℕ → List ℕ → ℕ → Step
ranged = ranged_in record_more
