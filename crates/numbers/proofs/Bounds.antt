-- Values and lengths are bounded: each byte in front of a rest adds one to its length and makes its value at most 128 times as large and 127 more.
use Prim.Native.Nat.{ℕ, zero, suc, ◌+◌, ◌*◌, ◌%◌, ◌^◌, ◌≤◌, ◌<◌, suc-le-suc}
use mathlib.Core.Path.{◌≡◌, refl}
use mathlib.Core.Bool.{Bool, true, false}
use mathlib.Core.List.{List, [], ◌∷◌}
use native.Mathlib.Omega.{arith}
use Rattle.std.specs.Prelude.{Result, Ok, Err}
use native.Mathlib.Nat.{pow-succ', one-le-pow, pow-le-pow_right, lt_of_lt_of_le}
use lib.ListN.{length}
use lib.Dec.{ltb, eqb}
use borrow.Author.Tests.{ltb-true}
use Rattle.plain.specs.Pick.{pick}
use Rattle.numbers.specs.declared.Number.{Number}
use Rattle.numbers.specs.declared.Fault.{Fault}
use Rattle.numbers.specs.declared.Fault.TheVariants.{Ended, TooLong, NotShortest}
use Rattle.numbers.specs.Number.{before, joined, number, worth}

-- a value v of n bytes, at most `more` after the first, from an input of `size` bytes
pub record Bounded (more size v n : ℕ) : Type 0 where
  pub value : v < 128 ^ suc more
  pub some : 0 < n
  pub bytes : n ≤ suc more
  pub within : n ≤ size

-- the same of what was found, where that has a value
abbrev Found : ℕ → ℕ → Result Number Fault → Type 0
Found more size (Ok r) = Bounded more size r.value r.length
Found more size (Err Ended) = Unit
Found more size (Err TooLong) = Unit
Found more size (Err (NotShortest r)) = Bounded more size r.value r.length

-- one byte, and one byte before a rest
one_byte : (more size b : ℕ) → b < 128 → Bounded more (suc size) b 1
one_byte more size b h = record {
  value = omega (arith, pow-succ' 128 more, one-le-pow more 128 (omega arith));
  some = omega arith;
  bytes = omega arith;
  within = omega arith;
}

one_more : (more size b v n : ℕ) → Bounded more size v n → (w : ℕ) → w ≤ b % 128 + 128 * v → Bounded (suc more) (suc size) w (n + 1)
one_more more size b v n r w h = record {
  value = omega (arith, r.value, pow-succ' 128 (suc more));
  some = omega arith;
  bytes = omega arith;
  within = omega arith;
}

-- by the clauses of `before` and of `number`
found_before : (more size b : ℕ) (r : Result Number Fault) → Found more size r → Found (suc more) (suc size) (before b r)
unfolding before
found_before more size b (Ok r) h = by (eqb r.value 0)
  where
    by : (t : Bool) → Found (suc more) (suc size) (pick t (Err (NotShortest (joined b r))) (Ok (joined b r)))
    by true = one_more more size b r.value r.length h _ (omega arith)
    by false = one_more more size b r.value r.length h _ (omega arith)
found_before more size b (Err Ended) h = tt
found_before more size b (Err TooLong) h = tt
found_before more size b (Err (NotShortest r)) h = one_more more size b r.value r.length h _ (omega arith)

found : (more : ℕ) (s : List ℕ) → Found more (length s) (number more s)
unfolding number
found more [] = tt
found zero (b ∷ s) = by (ltb b 128) refl
  where
    by : (t : Bool) → ltb b 128 ≡ t → Found zero (suc (length s)) (pick t (Ok (worth b 1)) (Err TooLong))
    by true e = one_byte zero (length s) b (ltb-true b 128 e)
    by false e = tt
found (suc more) (b ∷ s) = by (found more s) (ltb b 128) refl
  where
    by : Found more (length s) (number more s) → (t : Bool) → ltb b 128 ≡ t → Found (suc more) (suc (length s)) (pick t (Ok (worth b 1)) (before b (number more s)))
    by h true e = one_byte (suc more) (length s) b (ltb-true b 128 e)
    by h false e = found_before more (length s) b (number more s) h

-- a number that was read, in shortest form or padded
pub value-bounded : (more : ℕ) (s : List ℕ) (v n : ℕ) → number more s ≡ Ok (worth v n) → Bounded more (length s) v n
value-bounded more s v n e = rw e at (found more s)

pub padded-bounded : (more : ℕ) (s : List ℕ) (v n : ℕ) → number more s ≡ Err (NotShortest (worth v n)) → Bounded more (length s) v n
padded-bounded more s v n e = rw e at (found more s)

-- at most eight bytes leave room in a word for one group more
pub room : {more size v n : ℕ} → more ≤ 7 → Bounded more size v n → (v < 128 ^ 8) × (n ≤ 8)
room h b = (lt_of_lt_of_le b.value (pow-le-pow_right (omega arith) (suc-le-suc h)), omega arith)
