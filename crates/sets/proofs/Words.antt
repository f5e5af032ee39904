-- Words of nodes: the members of `a & !s` are those of a that s lacks, and the set of all nodes below n is the word of n ones.
use mathlib.Core.Path.{◌≡◌, refl, sym, ap, ◌∙◌}
use mathlib.Core.Logic.{⊎_elim}
use Prim.Native.Nat.{ℕ, zero, suc, ◌+◌, ◌-◌, ◌^◌, ◌≤◌, ◌<◌}
use native.Mathlib.Nat.{pow-suc, one-mul, eq-or-lt_of_le, le_of_suc-le-suc}
use native.Mathlib.Omega.{arith}
use lib.Bits.{bit_and}
use Rattle.plain.specs.Sums.{sum_to}
use Rattle.sets.specs.Member.{bit, Member}
use Rattle.sets.specs.Rule.{set_of}
use Rattle.sets.specs.Size.{size_to}
use Rattle.sets.proofs.Bits.{bit_le, bit-zero, bit-and, bit_not, mem-or, not-mem}
use Rattle.sets.proofs.Sizes.{size_same}
use Rattle.sets.proofs.Rule.{bit_past, bit-set}

-- a member that s lacks
pub missing : (a s k : ℕ) → k < 64 → s < 2 ^ 64 → Member k (bit_and a (2 ^ 64 - 1 - s)) → (Member k a) × (bit k s ≡ 0)
missing a s k l h m =
    let e = bit-and k a (2 ^ 64 - 1 - s) in
    let f = bit_not 64 k s l h in
    let x = bit_le k a in
    let y = bit_le k s in
    (omega arith, omega arith)

-- and the other way round
pub missed : (a s k : ℕ) → k < 64 → s < 2 ^ 64 → Member k a → bit k s ≡ 0 → Member k (bit_and a (2 ^ 64 - 1 - s))
missed a s k l h m z = let e = bit-and k a (2 ^ 64 - 1 - s) in let f = bit_not 64 k s l h in omega arith

-- none
pub none-missing : (a s : ℕ) → ((k : ℕ) → Member k a → k < 64) → s < 2 ^ 64 → bit_and a (2 ^ 64 - 1 - s) ≡ 0 → (k : ℕ) → Member k a → Member k s
none-missing a s g h z k m = ⊎_elim (λ (x : Member k s). x) (λ (o : bit k s ≡ 0). absurd (not-mem (ap (bit k) z ∙ bit-zero k) (missed a s k (g k m) h m o))) (mem-or k s)

-- all nodes below n
pub all-word : (n : ℕ) → set_of n (λ k. 1) + 1 ≡ 2 ^ n
unfolding set_of
all-word zero = refl
all-word (suc n) = let ih = all-word n in let a = one-mul (2 ^ n) in rw (pow-suc 2 n) (omega arith)

-- as many members of s are among them as s has below n
pub size-under : (d n s : ℕ) → n ≤ d → size_to d (bit_and s (set_of n (λ k. 1))) ≡ size_to n s
unfolding size_to sum_to
size-under zero n s h = let e : n ≡ 0 = omega arith in rw e
size-under (suc d) n s h = ⊎_elim
    (λ (q : n ≡ suc d). size_same (suc d) _ s (λ k l. let e = bit-and k s (set_of n (λ k. 1)) in let f = bit-set (λ k. 1) (λ k. omega arith) n k (rw q l) in let b = bit_le k s in omega arith) ∙ ap (λ (m : ℕ). size_to m s) (sym q))
    (λ (q : n < suc d). let e = bit-and d s (set_of n (λ k. 1)) in let f = bit_past (λ k. 1) (λ k. omega arith) n d (le_of_suc-le-suc q) in let ih = size-under d n s (le_of_suc-le-suc q) in omega arith)
    (eq-or-lt_of_le h)
