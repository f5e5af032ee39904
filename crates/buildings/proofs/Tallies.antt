-- The counts with one record more are those with its tally added: each count is a sum over the records, and of one record all are told by the same case.
use mathlib.Core.Path.{◌≡◌, refl, sym, ap, ◌∙◌}
use mathlib.Core.List.{List, [], ◌∷◌, ◌++◌}
use Prim.Native.Nat.{ℕ, zero, suc, ◌+◌, ◌≤◌, ◌<◌}
use native.Mathlib.Omega.{arith}
use lib.Dec.{eqb}
use lib.ListN.{set, length-append}
use Rattle.std.specs.Prelude.{Result, Ok, Err}
use borrow.Author.Tests.{eq-eqb, ne_eqb}
use Rattle.plain.specs.Pick.{one}
use Rattle.plain.specs.At.{at, tab}
use Rattle.plain.specs.Sums.{total}
use Rattle.plain.proofs.Lists.{at-tab}
use Rattle.plain.proofs.Sums.{total-behind}
use Rattle.refusals.specs.declared.Refusal.{Refusal}
use Rattle.tables.specs.declared.TaskTable.{TaskTable}
use Rattle.tables.specs.Limits.{cost_max}
use Rattle.plans.specs.Diagram.{work, segment_count}
use Rattle.plans.specs.Calls.{on_task}
use Rattle.buildings.specs.declared.Sums.{Sums}
use Rattle.buildings.specs.Task.{of_accepted, refused_by, heavy_in, light_in, dense_in}
use Rattle.buildings.specs.Counts.{numbers_max, counts_of, no_counts}
use Rattle.buildings.specs.Inner.Tally.{task_sums, tally_of, with_tally}
use Rattle.buildings.proofs.Alone.{own-high, Alone, alone}
use Rattle.buildings.proofs.Alone.Alone.{turned, taken}

-- equal entries, equal lists; and one entry that is another
tab-same : (n : ℕ) (f g : ℕ → ℕ) → ((k : ℕ) → g k ≡ f k) → tab n g ≡ tab n f
unfolding tab
tab-same zero f g e = refl
tab-same (suc n) f g e = rw (e 0, tab-same n (λ k. f (suc k)) (λ k. g (suc k)) (λ k. e (suc k)))

tab-set : (n : ℕ) (f g : ℕ → ℕ) (i : ℕ) → i < n → ((k : ℕ) → (k ≡ i → ⊥) → g k ≡ f k) → tab n g ≡ set (tab n f) i (g i)
unfolding tab
tab-set zero f g i h e = absurd (omega arith)
tab-set (suc n) f g zero h e = rw (tab-same n (λ k. f (suc k)) (λ k. g (suc k)) (λ k. e (suc k) (λ q. omega arith)))
tab-set (suc n) f g (suc i) h e = rw (e 0 (λ q. omega arith), tab-set n (λ k. f (suc k)) (λ k. g (suc k)) i (omega arith) (λ k p. e (suc k) (λ q. p (omega arith))))

-- no records
pub counts_none : (cost : ℕ) → no_counts ≡ counts_of [] cost
unfolding counts_of total tab
counts_none cost = refl

module _ (records : List (List ℕ)) (bytes : List ℕ) (cost : ℕ) where
  -- the counts by number before the record, and with it
  abbrev by_number : ℕ → ℕ
  by_number k = total (refused_by k cost) records

  abbrev with_it : ℕ → ℕ
  with_it k = total (refused_by k cost) (records ++ bytes ∷ [])

  -- of a refused record its own number's count is one more, and of an accepted one none is
  number_more : (number : ℕ) → number < numbers_max → ((k : ℕ) → refused_by k cost bytes ≡ one (eqb number k)) →
      tab numbers_max with_it ≡ set (tab numbers_max by_number) number (at (tab numbers_max by_number) number + 1)
  number_more number high is =
      let own : with_it number ≡ by_number number + 1 = total-behind (refused_by number cost) records bytes ∙ rw (is number, eq-eqb number number refl) in
      tab-set numbers_max by_number with_it number high (λ k n. total-behind (refused_by k cost) records bytes ∙ rw (is k, ne_eqb number k (λ q. n (sym q))) (omega arith))
      ∙ ap (set (tab numbers_max by_number) number) (own ∙ ap (λ (x : ℕ). x + 1) (sym (at-tab numbers_max by_number number high)))

  number-none : ((k : ℕ) → refused_by k cost bytes ≡ 0) → tab numbers_max with_it ≡ tab numbers_max by_number
  number-none is = tab-same numbers_max by_number with_it (λ k. total-behind (refused_by k cost) records bytes ∙ rw (is k) (omega arith))

  -- each sum is that of the records before, with what the record adds
  more : (f : TaskTable → ℕ) {n : ℕ} → of_accepted f cost bytes ≡ n → total (of_accepted f cost) (records ++ bytes ∷ []) ≡ total (of_accepted f cost) records + n
  more f e = total-behind (of_accepted f cost) records bytes ∙ ap (λ (n : ℕ). total (of_accepted f cost) records + n) e

  none_more : (f : TaskTable → ℕ) → of_accepted f cost bytes ≡ 0 → total (of_accepted f cost) (records ++ bytes ∷ []) ≡ total (of_accepted f cost) records
  none_more f e = more f e ∙ omega arith

  pub counts-more : cost ≤ cost_max → counts_of (records ++ bytes ∷ []) cost ≡ with_tally (counts_of records cost) (tally_of bytes cost)
  unfolding counts_of tally_of
  counts-more allowed = by (alone bytes cost allowed)
    where
      by : Alone bytes cost → counts_of (records ++ bytes ∷ []) cost ≡ with_tally (counts_of records cost) (on_task Err (λ t. Ok (task_sums t)) bytes cost)
      by (turned r own is) = rw (
        is (Result Sums Refusal) Err (λ t. Ok (task_sums t)),
        length-append records (bytes ∷ []),
        number_more r.number (own-high own) (λ k. is ℕ _ _),
        none_more (λ t. 1) (is ℕ _ _),
        none_more (λ t. t.count) (is ℕ _ _),
        none_more segment_count (is ℕ _ _),
        none_more work (is ℕ _ _),
        none_more heavy_in (is ℕ _ _),
        none_more light_in (is ℕ _ _),
        none_more dense_in (is ℕ _ _),
      )
      by (taken ok is) = rw (
        is (Result Sums Refusal) Err (λ t. Ok (task_sums t)),
        length-append records (bytes ∷ []),
        number-none (λ k. is ℕ _ _),
        more (λ t. 1) (is ℕ _ _),
        more (λ t. t.count) (is ℕ _ _),
        more segment_count (is ℕ _ _),
        more work (is ℕ _ _),
        more heavy_in (is ℕ _ _),
        more light_in (is ℕ _ _),
        more dense_in (is ℕ _ _),
      )
