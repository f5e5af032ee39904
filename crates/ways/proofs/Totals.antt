-- Work and path: the path is the greatest of the ends, and a work of at most 64 nodes is at most 64 times the greatest weight. Sum and greatest of
-- the first n weights as a list are those by index.
use mathlib.Core.Path.{◌≡◌, refl, sym, ap, ◌∙◌}
use mathlib.Core.Logic.{⊎_elim}
use mathlib.Core.List.{List, [], ◌∷◌}
use Prim.Native.Nat.{ℕ, zero, suc, ◌*◌, ◌≤◌, ◌<◌}
use native.Mathlib.Nat.{le_trans, le_refl, le_antisymm, mul-le-mul_right}
use native.Mathlib.Omega.{arith}
use lib.ListN.{length, take}
use Rattle.std.proofs.Common.{sum, Contains, All}
use lib.Seq.{take-suc}
use Rattle.std.proofs.lemmas.List.{get_or-take, length-take-le}
use Rattle.std.proofs.lemmas.List.Sums.{sum_by-append}
use Rattle.std.proofs.lemmas.List.Elements.{All-get_or, All-from_get_or, All-contains}
use Rattle.plain.specs.At.{at}
use Rattle.plain.proofs.Lists.{lt-or-ge}
use Rattle.plain.specs.Sums.{sum_to, max_to}
use Rattle.plain.proofs.Sums.{sum_to-le, le-max_to, max_to-le, max_to-none}
use Rattle.ways.specs.Ways.{ends}
use Rattle.ways.specs.Totals.{work_of, longest_of, path_of}
use Rattle.ways.proofs.Ways.{ends-past}

-- ---- the path
module _ (P X : List ℕ) (n : ℕ) where
  -- no end is later
  pub path-ge : (v : ℕ) → at (ends P X n) v ≤ path_of P X n
  unfolding path_of
  path-ge v = ⊎_elim
      (λ (l : v < n). le-max_to n (at (ends P X n)) v l)
      (λ (g : n ≤ v). let e = ends-past P X n v g in omega arith)
      (lt-or-ge v n)

-- ---- the work, at most 64 of the greatest weight
pub work-le : (X : List ℕ) (n G : ℕ) → ((v : ℕ) → at X v ≤ G) → n ≤ 64 → work_of X n ≤ 64 * G
unfolding work_of
work-le X n G b h = le_trans (sum_to-le n G (at X) (λ k l. b k)) (mul-le-mul_right G h)

-- ---- the first n as a list
module _ (X : List ℕ) (n : ℕ) (h : n ≤ length X) where
  -- their sum
  sum-front : (k : ℕ) → k ≤ n → sum (take k X) ≡ sum_to k (at X)
  unfolding sum_to
  sum-front zero l = refl
  sum-front (suc k) l =
      let inside : k < length X = omega arith in
      let ih = sum-front k (omega arith) in
      ap sum (take-suc X k 0 inside) ∙ sum_by-append (λ x. x) (take k X) (at X k ∷ []) ∙ (omega arith)

  pub front-work : sum (take n X) ≡ work_of X n
  unfolding work_of
  front-work = sum-front n (le_refl n)

  -- their greatest
  each : (P : ℕ → Type 0) → ((k : ℕ) → k < n → P (at X k)) → All P (take n X)
  each P f = All-from_get_or P (take n X) 0 (λ k l. let i : k < n = rw (length-take-le n X h) at l in rw (get_or-take n X k 0 i) (f k i))

  pub front-longest : (m : ℕ) → All (λ x. x ≤ m) (take n X) → (0 < n → Contains (take n X) m) → (n ≡ 0 → m ≡ 0) → m ≡ longest_of X n
  unfolding longest_of
  front-longest m most one none = ⊎_elim
      (λ (some : 0 < n). le_antisymm
      (All-contains (λ x. x ≤ max_to n (at X)) (take n X) m (each (λ x. x ≤ max_to n (at X)) (le-max_to n (at X))) (one some))
      (max_to-le n m (at X) (λ k l. rw (← (get_or-take n X k 0 l)) (All-get_or (λ x. x ≤ m) (take n X) k 0 (rw (length-take-le n X h) l) most))))
      (λ (no : n ≤ 0). let e : n ≡ 0 = omega arith in none e ∙ rw e (sym (max_to-none (at X))))
      (lt-or-ge 0 n)
