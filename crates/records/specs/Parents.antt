-- "its parent count (0..n) and that many parent numbers, each below n and strictly ascending"
use Rattle.std.specs.Prelude.{ℕ, zero, suc, ◌+◌, ◌-◌, ◌^◌, List, Err}
use Rattle.refusals.specs.Numbers.{bad_parent}
use Rattle.records.specs.Step.{Step, read, and_then}
use Rattle.records.specs.Ranged.{ranged}

-- "that many parent numbers, each below n and strictly ascending": k of them, the next at least low; "a set being one 64-bit word"
unfoldable pub parents : ℕ → ℕ → ℕ → ℕ → List ℕ → ℕ → Step
parents zero n low set bytes at = read set at
parents (suc k) n low set bytes at =
    and_then Err (ranged bad_parent low (n - 1) bytes at) λ p next.
    parents k n (p + 1) (set + 2 ^ p) bytes next

-- "its parent count (0..n) and that many parent numbers"
unfoldable pub parent_set : ℕ → List ℕ → ℕ → Step
parent_set n bytes at =
    and_then Err (ranged bad_parent 0 n bytes at) λ k next.
    parents k n 0 0 bytes next
