-- What a reader finds at the front of a list of bytes.
use Rattle.std.specs.Prelude.{ℕ, zero, suc, ◌+◌, ◌*◌, ◌%◌, List, [], ◌∷◌, Result, Ok, Err, ltb, eqb}
use Rattle.plain.specs.Pick.{pick}
use Rattle.numbers.specs.declared.Number.{Number}
use Rattle.numbers.specs.declared.Fault.{Fault}
use Rattle.numbers.specs.declared.Fault.TheVariants.{Ended, TooLong, NotShortest}

-- n bytes that are worth v
abbrev pub worth : (v n : ℕ) → Number
worth v n = record { value = v; length = n }

-- "each with seven bits of value, lowest group first": b before a number
abbrev pub joined : ℕ → Number → Number
joined b r = worth (b % 128 + 128 * r.value) (r.length + 1)

-- b before a rest that was read; a rest worth 0 is a last byte of 0, "allowed only as the sole byte"
unfoldable pub before : ℕ → Result Number Fault → Result Number Fault
before b (Ok r) = pick (eqb r.value 0) (Err (NotShortest (joined b r))) (Ok (joined b r))
before b (Err Ended) = Err Ended
before b (Err TooLong) = Err TooLong
before b (Err (NotShortest r)) = Err (NotShortest (joined b r))

-- "The top bit is set in every byte but the last": the number at the front, of at most `more` bytes after its first
unfoldable pub number : ℕ → List ℕ → Result Number Fault
number more [] = Err Ended
number zero (b ∷ s) = pick (ltb b 128) (Ok (worth b 1)) (Err TooLong)
number (suc more) (b ∷ s) = pick (ltb b 128) (Ok (worth b 1)) (before b (number more s))

-- "A number is 1 to 4 bytes": at most three after the first
abbrev pub record_more : ℕ
record_more = 3

-- "values of up to nine groups here": a plan record's, at most eight after the first
abbrev pub plan_more : ℕ
plan_more = 8
