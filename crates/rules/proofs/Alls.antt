-- `all` over the numbers below n: the list of these numbers is tried from the front, the definition goes from the back, and both hold just where each does.
use mathlib.Core.Path.{◌≡◌, refl, sym, ap, ◌∙◌}
use mathlib.Core.Bool.{Bool, true, false, ◌&&◌}
use mathlib.Core.List.{List}
use Prim.Native.Nat.{ℕ, zero, suc, ◌+◌}
use native.Mathlib.Nat.{add-zero, zero-add}
use native.Mathlib.Omega.{arith}
use denote.Param.Members.{Mut}
use Rattle.std.proofs.iter.Yields.{nat_range_steps}
use Rattle.std.proofs.lemmas.Iterator.{YieldsList-from_range}
use Rattle.std.proofs.lemmas.Iterator.Search.{all_from_yields_List}
use Rattle.std.specs.Fn.{Called}
use Rattle.std.specs.Iterator.{YieldsThen}
use Rattle.std.specs.List.{FoldsTo, list_all, range_with_len}
use Rattle.std.proofs.Common.{Option}
use Rattle.std.specs.declared.ops.Range.{Range}
use Rattle.std.specs.Option.{MatchOption}
use Rattle.plain.specs.Tests.{both, all_to}
use Rattle.plain.proofs.Tests.{all_to-none, all_to-same}

both-assoc : (a b c : Bool) → both (both a b) c ≡ both a (both b c)
both-assoc true b c = refl
both-assoc false b c = refl

both-and : (a b : Bool) → both a b ≡ (a && b)
both-and true b = refl
both-and false b = refl

-- the first of the tests, and the others
front : (n : ℕ) (f : ℕ → Bool) → all_to (suc n) f ≡ both (f 0) (all_to n (λ k. f (suc k)))
unfolding all_to
front zero f = last (f 0)
  where
    last : (b : Bool) → both true b ≡ both b true
    last true = refl
    last false = refl
front (suc n) f = rw (front n f) (both-assoc (f 0) (all_to n (λ k. f (suc k))) (f (suc n)))

listed : (n a : ℕ) (f : ℕ → Bool) → list_all f (range_with_len a n) ≡ all_to n (λ k. f (a + k))
listed zero a f = sym (all_to-none _)
listed (suc n) a f =
    let same : all_to n (λ k. f (a + 1 + k)) ≡ all_to n (λ k. f (a + suc k)) = all_to-same n _ _ (λ k l. let e : a + 1 + k ≡ a + suc k = omega arith in rw e) in
    ap (λ (b : Bool). f a && b) (listed n (a + 1) f ∙ same) ∙ sym (both-and (f a) (all_to n (λ k. f (a + suc k))))
    ∙ sym (front n (λ k. f (a + k)) ∙ ap (λ (x : ℕ). both (f x) (all_to n (λ k. f (a + suc k)))) (add-zero a))

-- what `all` answers over 0..n, where what is asked of each number is the test
pub all-below : {F : Type 0} {g : Mut F (ℕ × Unit {0}) Bool} {s u : Range ℕ} {f : F} (n : ℕ) (test : ℕ → Bool) {r : Bool}
    → (xs : List ℕ) × (o : Option ℕ) × (j : F) × YieldsThen nat_range_steps s xs o u × FoldsTo (λ p x q. Called g p (x, tt) true q) f xs j × MatchOption o (r ≡ true) (λ x. (r ≡ false) × ((h : F) × Called g j (x, tt) false h))
    → s ≡ record { start = 0; end = n } → ((x : ℕ) (b : Bool) (q : F) → Called g f (x, tt) b q → (q ≡ f) × (b ≡ test x)) → r ≡ all_to n test
all-below {u = u} {f = f} n test {r = r} ran is told =
    all_from_yields_List test u f r ran (YieldsList-from_range 0 n n is (omega arith)) told ∙ listed n 0 test ∙ all_to-same n _ test (λ k l. ap test (zero-add k))
