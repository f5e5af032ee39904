-- Whether and where a row is placed is told by two places, that of its id and the lowest free one: no test of `placed` looks at another figure.
use Rattle.std.proofs.Common.{◌≡◌, refl, sym, ap, ◌∙◌, Bool, true, false, List, ℕ, ◌<◌, Some, None, arith}
use Rattle.std.specs.Prelude.{Result, Ok, Err}
use Rattle.std.specs.Result.{result_and}
use lib.Dec.{ltb}
use borrow.Author.Tests.{ltb-true}
use Rattle.plain.specs.Pick.{pick}
use Rattle.refusals.specs.Numbers.{id_stands, board_full}
use Rattle.refusals.specs.declared.Refusal.{Refusal}
use Rattle.refusals.specs.declared.Answer.{Answer}
use Rattle.refusals.specs.Refusal.{refusal, refusal_of}
use Rattle.refusals.specs.Answer.{answered}
use Rattle.boards.specs.declared.Row.{Row}
use Rattle.boards.specs.declared.Change.{Change}
use Rattle.boards.specs.Row.{rows_max}
use Rattle.boards.specs.Find.{place_of, free_at}
use Rattle.boards.specs.Change.{placed}
use Rattle.boards.specs.Inner.Place.{row_place, told_place}

module _ (rows : List Row) (row : Row) where
  -- what the two places tell
  abbrev pub found : Result ℕ Refusal
  found = told_place (row_place (place_of row.id rows)) (row_place (free_at rows))

  -- what the tests of both pick
  abbrev told : Bool → Bool → Result ℕ Refusal
  told stands free = told_place (pick stands (Some (place_of row.id rows)) None) (pick free (Some (free_at rows)) None)

  abbrev picked : Bool → Bool → Result Change Refusal
  picked stands free = pick stands (Err (refusal id_stands 0)) (pick free (Ok (record { at = free_at rows; row = row })) (Err (refusal board_full 0)))

  -- a row that is refused leaves the board as it is
  pub place-refused : {r : Refusal} → found ≡ Err r → placed rows row ≡ Err r
  unfolding placed
  place-refused {r} = by (ltb (place_of row.id rows) rows_max) (ltb (free_at rows) rows_max)
    where
      by : (b c : Bool) → told b c ≡ Err r → picked b c ≡ Err r
      by true c e = ap Err (let q : refusal id_stands 0 ≡ r = cc in q)
      by false true e = absurd (let z : ◌≡◌ {A = ℕ} 0 1 = cc in omega arith)
      by false false e = ap Err (let q : refusal board_full 0 ≡ r = cc in q)

  -- a place is refused by 12 or 13, and neither is 0
  pub place-number : {r : Refusal} → found ≡ Err r → r.number ≡ 0 → ⊥
  place-number {r} = by (ltb (place_of row.id rows) rows_max) (ltb (free_at rows) rows_max)
    where
      by : (b c : Bool) → told b c ≡ Err r → r.number ≡ 0 → ⊥
      by true c e z = let q : refusal id_stands 0 ≡ r = cc in let n = ap (λ (x : Refusal). x.number) q in omega arith
      by false true e z = let y : ◌≡◌ {A = ℕ} 0 1 = cc in omega arith
      by false false e z = let q : refusal board_full 0 ≡ r = cc in let n = ap (λ (x : Refusal). x.number) q in omega arith

  -- any other goes to the free place
  pub place-accepted : {a : ℕ} → found ≡ Ok a → (placed rows row ≡ Ok (record { at = a; row = row })) × (a ≡ free_at rows) × (a < rows_max)
  unfolding placed
  place-accepted {a} = by (ltb (place_of row.id rows) rows_max) (ltb (free_at rows) rows_max) refl
    where
      by : (b c : Bool) → ltb (free_at rows) rows_max ≡ c → told b c ≡ Ok a → (picked b c ≡ Ok (record { at = a; row = row })) × (a ≡ free_at rows) × (a < rows_max)
      by true c f e = absurd (let z : ◌≡◌ {A = ℕ} 0 1 = cc in omega arith)
      by false true f e =
          let q : a ≡ free_at rows = cc in
          (rw q, q, rw q (ltb-true (free_at rows) rows_max f))
      by false false f e = absurd (let z : ◌≡◌ {A = ℕ} 0 1 = cc in omega arith)

-- planning is told what the places tell, as a later rule's answer
abbrev pub later_of : Result ℕ Refusal → Answer
later_of told = answered (result_and told (Ok 0))

pub later-refused : (told : Result ℕ Refusal) {later : Answer} → later ≡ later_of told → (later.refusal ≡ 0 → ⊥) → told ≡ Err (refusal_of later)
later-refused (Ok a) so n = absurd (n (ap (λ (x : Answer). x.refusal) so))
later-refused (Err r) so n = rw so

-- where planning is told nothing that refuses, the place is not refused, if no refusal of it is numbered 0; the board's are 12 and 13
pub later-none : {told : Result ℕ Refusal} {later : Answer} {r : Refusal} → (r.number ≡ 0 → ⊥) → later ≡ later_of told → later.refusal ≡ 0 → told ≡ Err r → ⊥
later-none n so z e = n (ap (λ (x : Result ℕ Refusal). (later_of x).refusal) (sym e) ∙ ap (λ (x : Answer). x.refusal) (sym so) ∙ z)

pub later-accepted : (rows : List Row) (row : Row) {told : Result ℕ Refusal} {later : Answer} {r : Refusal} → told ≡ found rows row → later ≡ later_of told → later.refusal ≡ 0 → told ≡ Err r → ⊥
later-accepted rows row found-so so z e = later-none (place-number rows row (sym found-so ∙ e)) so z e
