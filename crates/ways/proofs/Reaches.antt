-- Ways over parents: one way after another is a way, and a way starts and ends below n because each edge does.
use mathlib.Core.Path.{ap, ◌∙◌}
use mathlib.Core.Logic.{⊎_elim}
use mathlib.Core.List.{List}
use Prim.Native.Nat.{ℕ, ◌≤◌, ◌<◌}
use Rattle.plain.specs.At.{at}
use Rattle.plain.proofs.Lists.{lt-or-ge}
use Rattle.sets.specs.Member.{bit, Member}
use Rattle.sets.proofs.Bits.{bit-zero, mem-lt, not-mem}
use Rattle.ways.specs.Reaches.{Reaches, edge, more}
use Rattle.ways.specs.Inner.Tidy.{Tidy}

-- a way from a to b and one from b to c are a way from a to c
pub trans : {P : List ℕ} {a b c : ℕ} → Reaches P a b → Reaches P b c → Reaches P a c
trans (edge e) r = more e r
trans (more e s) r = more e (trans s r)

module _ (P : List ℕ) (n : ℕ) (ok : Tidy P n) where
  -- a parent is below n, and so is a node with a parent
  pub parent-lt : (v p : ℕ) → Member p (at P v) → p < n
  parent-lt v p m = mem-lt n p (at P v) (ok.word v) m

  pub child-lt : (v p : ℕ) → Member p (at P v) → v < n
  child-lt v p m = ⊎_elim
      (λ (l : v < n). l)
      (λ (h : n ≤ v). absurd (not-mem (ap (bit p) (ok.past v h) ∙ bit-zero p) m))
      (lt-or-ge v n)

  -- so a way ends below n, and starts there
  pub reached-lt : {v q : ℕ} → Reaches P v q → q < n
  reached-lt (edge {v} {p} e) = parent-lt v p e
  reached-lt (more e r) = reached-lt r

  pub from-lt : {v q : ℕ} → Reaches P v q → v < n
  from-lt (edge {v} {p} e) = child-lt v p e
  from-lt (more {v} {p} e r) = child-lt v p e
