-- Along a word: of its bytes those passed were digits, so that what is still to be said of the word is what the bytes left say.
use Prim.Native.Nat.{ℕ, ◌+◌, ◌-◌, ◌*◌, ◌≤◌, ◌<◌}
use mathlib.Core.Path.{◌≡◌, refl, ap, ◌∙◌}
use mathlib.Core.Bool.{true, false}
use mathlib.Core.List.{List, [], ◌∷◌}
use native.Mathlib.Nat.{add-zero}
use native.Mathlib.Omega.{arith}
use lib.ListN.{length, take, drop, length-drop, drop_of_length-le}
use Rattle.std.specs.Prelude.{Ok, Err}
use Rattle.std.proofs.lemmas.List.{get_or-drop}
use Rattle.plain.proofs.Lists.{part-from}
use Rattle.plain.specs.At.{at}
use Rattle.graphwords.specs.declared.Fault.TheVariants.{Other}
use Rattle.graphwords.specs.Words.{is_parting, letters_of, words_at}
use Rattle.graphwords.specs.Decimal.{is_digit, is_decimal, decimal_after, decimal_of}
use Rattle.graphwords.specs.Inner.Found.{cap, capped, found_in, Begins}
use Rattle.graphwords.proofs.Capped.{capped-most, capped-digit}
use Rattle.graphwords.proofs.Words.{letters-parted, letters-more, from-here, words-here}

module _ (text : List ℕ) (place : ℕ) where
  -- the text from the word on, as the loop is handed it
  abbrev pub rest : List ℕ
  rest = take (length text - place) (drop place text)

  length-rest : length rest ≡ length text - place
  length-rest = ap length (part-from place text) ∙ length-drop place text

  -- the word at `place`, of which so many bytes were passed: those digits are worth `whole`, of which `value` was counted
  pub record Along (passed value : ℕ) : Type 0 where
    pub whole : ℕ
    pub is : value ≡ capped whole
    pub decimal : is_decimal (letters_of (drop place text)) ≡ is_decimal (letters_of (drop (place + passed) text))
    pub number : decimal_of (letters_of (drop place text)) ≡ decimal_after whole (letters_of (drop (place + passed) text))
    pub past : place + length (letters_of (drop place text)) ≡ place + passed + length (letters_of (drop (place + passed) text))

  pub along-none : Along 0 0
  along-none = let e : place + 0 ≡ place = omega arith in record { whole = 0; is = refl; decimal = rw e refl; number = rw e refl; past = rw e refl }

  module _ {passed value : ℕ} (a : Along passed value) where
    pub along-most : value ≤ cap
    along-most = omega (arith, a.is, capped-most a.whole)

    -- the next byte, or none
    next : at rest passed ≡ at text (place + passed)
    next = ap (λ (s : List ℕ). at s passed) (part-from place text) ∙ get_or-drop place text passed 0

    on : passed < length rest → drop (place + passed) text ≡ at rest passed ∷ drop (place + passed + 1) text
    on l = rw next (from-here text (place + passed) (omega (arith, l, length-rest)))

    -- with a digit more
    left : passed < length rest → is_parting (at rest passed) ≡ false → letters_of (drop (place + passed) text) ≡ at rest passed ∷ letters_of (drop (place + passed + 1) text)
    left l p = ap letters_of (on l) ∙ letters-more _ _ p

    pub along-more : passed < length rest → is_parting (at rest passed) ≡ false → is_digit (at rest passed) ≡ true →
        Along (passed + 1) (capped (10 * value + (at rest passed - 48)))
    unfolding is_decimal decimal_after
    along-more l p d = let e : place + (passed + 1) ≡ place + passed + 1 = omega arith in record {
      whole = 10 * a.whole + (at rest passed - 48);
      is = ap (λ (v : ℕ). capped (10 * v + (at rest passed - 48))) a.is ∙ capped-digit a.whole (at rest passed - 48);
      decimal = a.decimal ∙ ap is_decimal (left l p) ∙ rw (d, e) refl;
      number = a.number ∙ ap (decimal_after a.whole) (left l p) ∙ rw e refl;
      past = rw e (omega (arith, a.past, ap length (left l p)));
    }

    -- what is found in the words from a place on, of which this is the first
    module _ {from : ℕ} (b : Begins text from place) (h : place < length text) where
      whole : letters_of (drop (place + passed) text) ≡ [] → Ok (record { value = value; place = place; end = place + passed }) ≡ found_in (words_at text from)
      unfolding found_in is_decimal decimal_after
      whole none = rw (b.same, words-here text place h (b.first h), found_in, a.decimal, a.number, a.past, none, add-zero (place + passed), a.is) refl

      pub found_parted : passed < length rest → is_parting (at rest passed) ≡ true →
          Ok (record { value = value; place = place; end = place + passed }) ≡ found_in (words_at text from)
      found_parted l p = whole (ap letters_of (on l) ∙ letters-parted _ _ p)

      pub found_ended : length rest ≤ passed → passed ≤ length rest → Ok (record { value = value; place = place; end = length text }) ≡ found_in (words_at text from)
      unfolding letters_of
      found_ended l m =
          let e : place + passed ≡ length text = omega (arith, l, m, length-rest, h) in
          let past : length text ≤ place + passed = omega arith in rw (← e) (whole (rw (drop_of_length-le text past)))

      pub found_other : passed < length rest → is_parting (at rest passed) ≡ false → is_digit (at rest passed) ≡ false → Err (Other place) ≡ found_in (words_at text from)
      unfolding found_in is_decimal
      found_other l p d = rw (b.same, words-here text place h (b.first h), found_in, a.decimal, left l p, d) refl
