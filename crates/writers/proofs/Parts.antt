-- The parts in which a record's numbers are written make up the record: its nodes follow its head, one after the other.
use Prim.Native.Nat.{ℕ, zero, suc, ◌+◌, ◌-◌, ◌<◌}
use mathlib.Core.Path.{◌≡◌, refl, ap, ap₂, ◌∙◌}
use mathlib.Core.Logic.{⊎_elim}
use mathlib.Core.List.{List, [], ◌∷◌, ◌++◌, append_assoc, append-nil}
use native.Mathlib.Nat.{eq-or-lt_of_le}
use native.Mathlib.Numerals.{add-one}
use native.Mathlib.Omega.{arith}
use lib.ListN.{length, replicate}
use Rattle.plain.specs.At.{at}
use Rattle.plain.proofs.Lists.{at-replicate}
use Rattle.tables.specs.Limits.{count_max}
use Rattle.writers.specs.Record.{node_numbers, numbers_to}
use Rattle.writers.specs.Writing.{filled, table_of}
use Rattle.writers.specs.Inner.Parts.{head_numbers, nodes_to}

-- one node more
pub nodes-next : (X P : List ℕ) (i : ℕ) → nodes_to X P (i + 1) ≡ nodes_to X P i ++ node_numbers (at X i) (at P i)
unfolding nodes_to
nodes-next X P i = rw (add-one i)

-- and what is left after it
pub nodes-split : (X P : List ℕ) (i n : ℕ) → i < n → (rest : List ℕ) × (nodes_to X P n ≡ nodes_to X P i ++ (node_numbers (at X i) (at P i) ++ rest))
unfolding nodes_to
nodes-split X P i zero h = absurd (omega arith)
nodes-split X P i (suc n) h = ⊎_elim
    (λ (e : suc i ≡ suc n). let q : i ≡ n = omega arith in ([], rw (← q, append-nil (node_numbers (at X i) (at P i)))))
    (λ (l : suc i < suc n). let more = nodes-split X P i n (omega arith) in let next = node_numbers (at X n) (at P n) in let this = node_numbers (at X i) (at P i) in
    (more.0 ++ next, ap (λ (vs : List ℕ). vs ++ next) more.1 ∙ append_assoc (nodes_to X P i) (this ++ more.0) next ∙ ap (λ (vs : List ℕ). nodes_to X P i ++ vs) (append_assoc this more.0 next)))
    (eq-or-lt_of_le h)

-- a list with zeros after it, read by index
at-zeros : (l : List ℕ) (m i : ℕ) → at (l ++ replicate m 0) i ≡ at l i
at-zeros [] m i = at-replicate m i
at-zeros (x ∷ l) m zero = refl
at-zeros (x ∷ l) m (suc i) = at-zeros l m i

pub at-filled : (l : List ℕ) (i : ℕ) → at (filled l) i ≡ at l i
at-filled l i = at-zeros l (count_max - length l) i

-- the numbers of a table are those of its head, and then those of its nodes
pub numbers-parts : (X P : List ℕ) (x d p i : ℕ) → numbers_to (table_of X P x d p) i ≡ head_numbers x d p (length X) ++ nodes_to X P i
unfolding numbers_to nodes_to
numbers-parts X P x d p zero = refl
numbers-parts X P x d p (suc i) =
    ap₂ ◌++◌ (numbers-parts X P x d p i) (ap₂ node_numbers (at-filled X i) (at-filled P i)) ∙ append_assoc (head_numbers x d p (length X)) (nodes_to X P i) (node_numbers (at X i) (at P i))
