-- `buildings::count_building` meets its contract: the counts are 0 at first.
use Rattle.std.proofs.Common.{◌≡◌, ℕ, ◌<◌, List, ◌∙◌, sym, get_or, length, replicate}
use Rattle.std.proofs.lemmas.Grind.{same_number_lists}
use Rattle.std.proofs.lemmas.List.{length-replicate, get_or-replicate}
use Rattle.buildings.specs.Counts.{no_counts}
use Rattle.buildings.proofs.count_building.Goals as goal
use Rattle.buildings.proofs.count_building.Goals.{After-default-counts}

-- a list of n zeros
zeros : (n : ℕ) (xs : List ℕ) → length xs ≡ n → ((k : ℕ) → k < n → get_or xs k 0 ≡ 0) → xs ≡ replicate n 0
zeros n xs long at = same_number_lists xs (replicate n 0) (long ∙ sym (length-replicate n 0)) (λ k h. let l = rw long at h in at k l ∙ sym (get_or-replicate n k 0 0 l))

-- the counts by default
made : (c : After-default-counts) → (c.default-counts.result ≡ no_counts)
made c =
    let (r, (a, (z, (n, (s, (w, (h, (l, d)))))))) = c.default-counts.ensures in
    rw (r, a, zeros 29 c.default-counts.result.refused z.long (λ k b. z.at k 0 b), n, s, w, h, l, d)

pub count_records-requires : goal.count_records-requires
count_records-requires c = made (goal.at.count_records-requires c).After-default-counts
