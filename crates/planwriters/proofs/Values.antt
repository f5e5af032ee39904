-- Values are counted and written from the front: what was passed, with the next value behind it, is what will have been passed.
use Prim.Native.Nat.{ℕ, suc, ◌+◌, ◌*◌, ◌^◌, ◌≤◌, ◌<◌}
use mathlib.Core.Path.{◌≡◌, refl, ap}
use mathlib.Core.List.{List, [], ◌∷◌, ◌++◌}
use native.Mathlib.Numerals.{add-one}
use native.Mathlib.Omega.{arith}
use lib.ListN.{length, take, drop, length-take}
use lib.Seq.{take-suc, split_at, sets}
use Rattle.std.specs.List.{sum_by}
use Rattle.std.proofs.lemmas.List.Sums.{sum_by-cons}
use Rattle.plain.specs.At.{at}
use Rattle.numbers.specs.Number.{plan_more}
use Rattle.numbers.specs.Shortest.{shortest, all_shortest}
use Rattle.numbers.specs.Inner.Word.{word_more}
use Rattle.numbers.proofs.Written.{Wrote, wrote-number, wrote-more, word_number, written-length, written-most, room_after}
use Rattle.plans.specs.Words.{words_max}
use Rattle.planwriters.specs.Writing.{value_limit}
use Rattle.planwriters.specs.Inner.Fits.{Small}
use Rattle.planwriters.proofs.Small.{small-behind}

-- a value's form as a word is its form in nine groups
pub small-number : (v : ℕ) → v < value_limit → shortest word_more v ≡ all_shortest plan_more (v ∷ [])
small-number v h = word_number plan_more v (omega arith) (omega arith)

-- how many bytes a word takes
abbrev pub word_size : ℕ → ℕ
word_size v = length (shortest word_more v)

-- what they take together is what each takes, summed
pub size-sum : (values : List ℕ) → Small values → sum_by word_size values ≡ length (all_shortest plan_more values)
unfolding all_shortest
size-sum [] s = refl
size-sum (v ∷ vs) s = omega (arith, sum_by-cons word_size v vs, size-sum vs (small-behind s), written-length plan_more (v ∷ []) vs, ap (length {A = ℕ}) (small-number v (s.each 0)))

-- so many take no more than so many bytes, and their sum fits
pub size-most : (values : List ℕ) (k : ℕ) → length values ≤ words_max → length (all_shortest plan_more (take k values)) ≤ words_max * suc plan_more
size-most values k h = omega (arith, written-most plan_more (take k values), length-take k values)

pub size-fits : (values : List ℕ) → Small values → length values ≤ words_max → sum_by word_size values < 2 ^ 64
size-fits values s h = omega (arith, size-sum values s, written-most plan_more values)

module _ (values : List ℕ) (i : ℕ) (h : i < length values) where
  -- the next value
  passed-next : take (i + 1) values ≡ take i values ++ (at values i ∷ [])
  passed-next = rw (add-one i) (take-suc values i 0 h)

  -- the size with it
  pub size-next : at values i < value_limit → length (all_shortest plan_more (take (i + 1) values)) ≡ length (all_shortest plan_more (take i values)) + length (shortest word_more (at values i))
  size-next s = rw (passed-next, small-number (at values i) s) (written-length plan_more (take i values) (at values i ∷ []))

  module _ {b c : List ℕ} {k next : ℕ} (w : Wrote plan_more b k (take i values) c next) (s : at values i < value_limit) where
    -- there is room for it
    pub room_next : k + length (all_shortest plan_more values) ≤ length b → next + length (shortest word_more (at values i)) ≤ length c
    room_next r = rw (small-number (at values i) s) (room_after w (at values i ∷ []) (drop (suc i) values) (rw (split_at values i 0 h) at r))

    -- and it is written
    pub wrote-next : {d : List ℕ} {last : ℕ} → last ≡ next + length (shortest word_more (at values i)) → d ≡ sets c next (shortest word_more (at values i)) →
        Wrote plan_more b k (take (i + 1) values) d last
    wrote-next p e = rw passed-next (wrote-more w (wrote-number plan_more (at values i) (omega arith) (omega arith) p e))
