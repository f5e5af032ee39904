-- The members of a set take a byte each, since each is below 128: so what is stored for them is what is written of them.
use Prim.Native.Nat.{ℕ, zero, suc, ◌+◌, ◌≤◌}
use mathlib.Core.Path.{◌≡◌, refl, ap, ap₂, ◌∙◌}
use mathlib.Core.Logic.{⊎_elim}
use mathlib.Core.List.{List, [], ◌++◌}
use native.Mathlib.Omega.{arith}
use lib.ListN.{length}
use lib.Seq.{sets}
use Rattle.sets.specs.Member.{bit}
use Rattle.sets.specs.Size.{size}
use Rattle.sets.specs.Members.{only, members}
use Rattle.sets.proofs.Bits.{mem-or}
use Rattle.sets.proofs.Sizes.{length-members}
use Rattle.tables.specs.Limits.{count_max}
use Rattle.numbers.specs.Number.{record_more}
use Rattle.numbers.specs.Shortest.{all_shortest}
use Rattle.numbers.proofs.Shortest.{shortest-last}
use Rattle.numbers.proofs.Written.{written-append, Wrote}
use Rattle.writers.specs.Record.{numbers_written}

-- a byte each
pub members-written : (d s : ℕ) → d ≤ 128 → numbers_written (members d s) ≡ members d s
unfolding members all_shortest
members-written zero s h = refl
members-written (suc d) s h = written-append record_more (members d s) (only (bit d s) d) ∙ ap₂ ◌++◌ (members-written d s (omega arith)) (⊎_elim
    (λ (m : bit d s ≡ 1). rw m (ap (λ (w : List ℕ). w ++ []) (shortest-last record_more d h)))
    (λ (z : bit d s ≡ 0). rw z)
    (mem-or d s))

pub members-size : (s : ℕ) → length (numbers_written (members count_max s)) ≡ size s
members-size s = ap (length {A = ℕ}) (members-written count_max s (omega arith)) ∙ length-members count_max s

pub wrote-members : (s : ℕ) {b c : List ℕ} {k next : ℕ} → next ≡ k + size s → c ≡ sets b k (members count_max s) → Wrote record_more b k (members count_max s) c next
wrote-members s p e = record { bytes = rw (members-written count_max s (omega arith)) e; place = rw (members-size s) p }
