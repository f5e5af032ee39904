-- The walk by runs: adding 1 to a word clears its ones up to its lowest zero, sets that, and changes nothing above. So a word less 1 has ones below
-- its lowest member, which fill the zeros there; and 1 more than the filled word begins past the run. The number before is the run's last member,
-- and what that sum has in common with the word are the members past the run.
use mathlib.Core.Path.{◌≡◌, sym, ap, ◌∙◌}
use mathlib.Core.Logic.{⊎_elim}
use Prim.Native.Nat.{ℕ, zero, suc, ◌+◌, ◌-◌, ◌/◌, ◌^◌, ◌≤◌, ◌<◌, zero-le, suc-le-suc}
use native.Mathlib.Nat.{not-suc-le-zero, le_of_suc-le-suc, eq-or-lt_of_le}
use native.Mathlib.Omega.{arith}
use lib.Bits.{bit_and, bit_or}
use lib.Count.{count_trailing_zeros}
use Rattle.plain.proofs.Lists.{lt-or-ge}
use Rattle.sets.specs.Member.{bit, Member}
use Rattle.sets.specs.Inner.Last.{Last}
use Rattle.sets.proofs.Bits.{bit-zero, bit-and, bit-or, bit_not, mem-lt, mem-or-l, mem-or-r, not-mem, same_bits}
use Rattle.sets.proofs.Walks.{lowest-mem, lowest-none, lowest-lt}

-- ---- adding 1
-- one digit on, where x is odd
half : (x : ℕ) → bit 0 (x + 1) ≡ 0 → (x + 1) / 2 ≡ x / 2 + 1
unfolding bit
half x h = omega arith

-- where x + 1 has zeros, x has ones
ones : (k x : ℕ) → ((j : ℕ) → j ≤ k → bit j (x + 1) ≡ 0) → Member k x
unfolding bit
ones zero x h = let a = h 0 zero-le in omega arith
ones (suc k) x h = ones k (x / 2) (λ j l. ap (bit j) (sym (half x (h 0 zero-le))) ∙ h (suc j) (suc-le-suc l))

-- where it has its lowest member, x has none
lacks : (e x : ℕ) → ((j : ℕ) → j < e → bit j (x + 1) ≡ 0) → Member e (x + 1) → bit e x ≡ 0
unfolding bit
lacks zero x h m = omega arith
lacks (suc e) x h m =
    let q = sym (half x (h 0 (suc-le-suc zero-le))) in
    lacks e (x / 2) (λ j l. ap (bit j) q ∙ h (suc j) (suc-le-suc l)) (ap (bit e) q ∙ m)

-- and above it they agree
agrees : (e k x : ℕ) → ((j : ℕ) → j < e → bit j (x + 1) ≡ 0) → Member e (x + 1) → e < k → bit k (x + 1) ≡ bit k x
unfolding bit
agrees e zero x h m l = absurd (not-suc-le-zero l)
agrees zero (suc k) x h m l = let q : (x + 1) / 2 ≡ x / 2 = omega arith in ap (bit k) q
agrees (suc e) (suc k) x h m l =
    let q = half x (h 0 (suc-le-suc zero-le)) in
    ap (bit k) q ∙ agrees e k (x / 2) (λ j g. ap (bit j) (sym q) ∙ h (suc j) (suc-le-suc g)) (ap (bit e) (sym q) ∙ m) (le_of_suc-le-suc l)

-- all of it, of the number of trailing zeros
record Carried (x e : ℕ) : Type 0 where
  below : (k : ℕ) → k < e → Member k x
  here : bit e x ≡ 0
  above : (k : ℕ) → e < k → bit k (x + 1) ≡ bit k x

carried : (x : ℕ) → x + 1 < 2 ^ 64 → Carried x (count_trailing_zeros 64 (x + 1))
carried x h =
    let none = lowest-none 64 (x + 1) in
    let m = lowest-mem 64 (x + 1) (omega arith) h in
    record {
      below = λ k l. ones k x (λ j g. none j (omega arith));
      here = lacks (count_trailing_zeros 64 (x + 1)) x none m;
      above = λ k l. agrees (count_trailing_zeros 64 (x + 1)) k x none m l;
    }

-- ---- the walk
-- where a walk over s is: the numbers below `past` are done with, the last of them is a member, and the others are left
pub record Walked (s left past : ℕ) : Type 0 where
  pub done : (k : ℕ) → k < past → bit k left ≡ 0
  pub rest : (k : ℕ) → past ≤ k → bit k left ≡ bit k s
  pub within : past ≤ 64
  pub last : 0 < past → Member (past - 1) s

-- before the first step
pub run_none : (s : ℕ) → Walked s s 0
run_none s = record { done = λ k l. absurd (not-suc-le-zero l); rest = λ k l. ap (bit k) (omega arith); within = zero-le; last = λ l. omega arith }

module _ {s left past : ℕ} (w : Walked s left past) (h : left < 2 ^ 64) where
  -- ---- some are left
  module _ (n : left ≡ 0 → ⊥) where
    -- the lowest of them, and the word with the zeros below it filled
    abbrev low : ℕ
    low = count_trailing_zeros 64 left

    abbrev filled : ℕ
    filled = bit_or left (left - 1)

    low-mem : Member low left
    low-mem = lowest-mem 64 left (omega arith) h

    less : Carried (left - 1) low
    less = let q : left - 1 + 1 ≡ left = omega arith in rw q at (carried (left - 1) (omega arith))

    -- it is not below what is done with
    low-rest : past ≤ low
    low-rest = ⊎_elim (λ (l : low < past). absurd (not-mem (w.done low l) low-mem)) (λ (l : past ≤ low). l) (lt-or-ge low past)

    -- up to it the filled word has ones, above it the word's own digits
    fill-low : (k : ℕ) → k ≤ low → Member k filled
    fill-low k l = ⊎_elim
        (λ (e : k ≡ low). rw e (mem-or-l low left (left - 1) low-mem))
        (λ (g : k < low). mem-or-r k left (left - 1) (less.below k g))
        (eq-or-lt_of_le l)

    fill-high : (k : ℕ) → low < k → bit k filled ≡ bit k left
    fill-high k l =
        let q : left - 1 + 1 ≡ left = omega arith in
        let a = bit-or k left (left - 1) in
        let b = rw q at (less.above k l) in
        omega arith

    -- so from it on a member of the filled word is one of s
    from_low : (k : ℕ) → low ≤ k → Member k filled → Member k s
    from_low k l m = sym (w.rest k (let a = low-rest in omega arith)) ∙ ⊎_elim
        (λ (e : low ≡ k). rw (← e) low-mem)
        (λ (g : low < k). sym (fill-high k g) ∙ m)
        (eq-or-lt_of_le l)

    -- where the run reaches the top, 63 is the last member
    pub run-top : filled ≡ 2 ^ 64 - 1 → s < 2 ^ 64 → Last 63 s
    run-top e g = record {
      low = omega arith;
      mem = from_low 63 (let a = lowest-lt 64 left (omega arith) h in omega arith) (ap (bit 63) e ∙ bit_not 64 63 0 (omega arith) (omega arith) ∙ ap (λ (x : ℕ). 1 - x) (bit-zero 63));
      top = λ j m. let a = mem-lt 64 j s g m in omega arith;
    }

    -- else it ends before its first zero
    module _ (g : filled + 1 < 2 ^ 64) where
      abbrev end : ℕ
      end = count_trailing_zeros 64 (filled + 1)

      more : Carried filled end
      more = carried filled g

      low_end : low < end
      low_end = ⊎_elim (λ (l : low < end). l) (λ (l : end ≤ low). absurd (not-mem more.here (fill-low end l))) (lt-or-ge low end)

      -- what the word has in common with 1 more than the filled one is left past it
      next-done : (k : ℕ) → k < end → bit k (bit_and left (filled + 1)) ≡ 0
      next-done k l = let a = bit-and k left (filled + 1) in let b = lowest-none 64 (filled + 1) k l in omega arith

      next-rest : (k : ℕ) → end ≤ k → bit k (bit_and left (filled + 1)) ≡ bit k s
      next-rest k l =
          let a = bit-and k left (filled + 1) in
          let b = fill-high k (let d = low_end in omega arith) in
          let d = w.rest k (let p = low-rest in let q = low_end in omega arith) in
          ⊎_elim
          (λ (e : end ≡ k). let q = more.here in let r : bit k filled ≡ 0 = rw e at q in omega arith)
          (λ (e : end < k). let q = more.above k e in omega arith)
          (eq-or-lt_of_le l)

      pub run_step : Walked s (bit_and left (filled + 1)) end
      run_step = record {
        done = next-done;
        rest = next-rest;
        within = let a = lowest-lt 64 (filled + 1) (omega arith) g in omega arith;
        last = λ l. let a = low_end in from_low (end - 1) (omega arith) (more.below (end - 1) (omega arith));
      }

      -- and further on
      pub run_on : past < end
      run_on = let a = low-rest in let b = low_end in omega arith

  -- ---- none is left: some are past, and the last of them is the last member
  pub run-some : (s ≡ 0 → ⊥) → left ≡ 0 → 0 < past
  run-some n z = ⊎_elim
      (λ (l : 0 < past). l)
      (λ (l : past ≤ 0). absurd (n (same_bits s 0 (λ k. sym (w.rest k (omega arith)) ∙ ap (bit k) z))))
      (lt-or-ge 0 past)

  pub run_end : (s ≡ 0 → ⊥) → left ≡ 0 → Last (past - 1) s
  run_end n z =
      let l = run-some n z in
      record {
        low = let a = w.within in omega arith;
        mem = w.last l;
        top = λ j m. ⊎_elim
            (λ (b : j < past). omega arith)
            (λ (b : past ≤ j). absurd (not-mem (ap (bit j) z ∙ bit-zero j) (w.rest j b ∙ m)))
            (lt-or-ge j past);
      }
