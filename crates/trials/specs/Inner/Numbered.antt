-- The rules by their numbers, and which things a plan is held to in the same way.
use Rattle.std.specs.Prelude.{◌≡◌, Bool, true, false, List, [], ◌∷◌, ℕ, ◌≤◌, ◌<◌, get_or}
use Rattle.rules.specs.Rules.{Held, over_fits, same_cut, shared_out, summed, followed, halved, thinned, rounded}

-- rule k, from 1 to 8, as a test; no other number is a rule, so nothing is broken there
abbrev pub test : Held → (w : List ℕ) → (k : ℕ) → Bool
test h w k = get_or (true ∷ over_fits w ∷ same_cut h w ∷ shared_out h w ∷ summed h w ∷ followed h w ∷ halved h w ∷ thinned h w ∷ rounded h w ∷ []) k true

-- rule k is broken, and none before it
pub record Broken (h : Held) (w : List ℕ) (k : ℕ) : Type 0 where
  pub low : 1 ≤ k
  pub high : k ≤ 8
  pub here : test h w k ≡ false
  pub before : (j : ℕ) → 1 ≤ j → j < k → test h w j ≡ true

-- h and k are equal in all that the rules look at
pub record SameHeld (h k : Held) : Type 0 where
  pub period : h.period ≡ k.period
  pub work : h.work ≡ k.work
  pub count : h.count ≡ k.count
  pub parents : h.parents ≡ k.parents
  pub execution : (v : ℕ) → v < h.count → h.execution v ≡ k.execution v
  pub segments : h.segments ≡ k.segments
  pub threads : (j : ℕ) → j < h.segments → h.threads j ≡ k.threads j
  pub lengths : (j : ℕ) → j < h.segments → h.lengths j ≡ k.lengths j
  pub share : (given : ℕ → ℕ) (v : ℕ) → v < h.count → h.share given v ≡ k.share given v
