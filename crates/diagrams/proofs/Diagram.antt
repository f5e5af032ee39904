-- A table without a loop has a timing diagram: its ends obey the rule, a begin is 0 or the end of a parent, and a parent has a lower rank.
use mathlib.Core.Path.{◌≡◌}
use mathlib.Core.Logic.{inl, inr, ⊎_elim}
use mathlib.Core.List.{List}
use Prim.Native.Nat.{ℕ}
use Rattle.plain.specs.At.{at}
use Rattle.ways.specs.Reaches.{Reaches}
use Rattle.ways.specs.Inner.Tidy.{Tidy}
use Rattle.ways.specs.Ways.{begins, ends}
use Rattle.ways.proofs.Closure.{rank, rank_falls}
use Rattle.ways.proofs.Ways.{begin-is, ends-begins}
use Rattle.segments.specs.Inner.Diagram.{Diagram}

pub diagram : (P X : List ℕ) (n : ℕ) → Tidy P n → ((v : ℕ) → Reaches P v v → ⊥) → Diagram n (at (begins P X n)) (at (ends P X n)) (at X)
diagram P X n ok free = record {
  rank = rank P n;
  ends = λ v h. ends-begins P X n ok free v h;
  begins = λ v h. ⊎_elim
      (λ (e : at (begins P X n) v ≡ 0). inl e)
      (λ w. inr (w.0, w.1, w.3, rank_falls P n ok free v w.0 w.2))
      (begin-is P X n v h);
}
