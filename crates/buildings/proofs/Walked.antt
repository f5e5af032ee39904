-- The walk over a file keeps the counts of the records that lie before the place it has come to; where it ends, these are the walk's.
use mathlib.Core.Path.{◌≡◌, sym, ap, ◌∙◌}
use mathlib.Core.List.{List, [], ◌∷◌, ◌++◌}
use Prim.Native.Nat.{ℕ, ◌+◌, ◌≤◌, ◌<◌}
use native.Mathlib.Omega.{arith}
use lib.ListN.{length}
use Rattle.std.specs.Prelude.{Err}
use Rattle.refusals.specs.declared.Refusal.{Refusal}
use Rattle.refusals.specs.Answer.{accepted}
use Rattle.refusals.specs.Answer as refusal
use Rattle.tables.specs.Limits.{cost_max}
use Rattle.records.specs.Step.{read}
use Rattle.plans.specs.Words.{words_max}
use Rattle.files.specs.File.{record_at, part_of, walk}
use Rattle.files.specs.Laid.{Laid}
use Rattle.files.specs.Laid.Laid.{none}
use Rattle.files.proofs.Walked.{laid-past, laid-whole, laid-refused, laid_more}
use Rattle.buildings.specs.declared.Counts.{Counts}
use Rattle.buildings.specs.Counts.{counts_of, no_counts}
use Rattle.buildings.specs.Building.{file_max, counted}
use Rattle.buildings.specs.Inner.Tally.{tally_of, with_tally}
use Rattle.buildings.specs.Inner.Sized.{Sized}
use Rattle.buildings.proofs.Tallies.{counts_none, counts-more}
use Rattle.buildings.proofs.Sized.{counts-sized}

-- some records lie before the place, with these counts; the words have room for a plan
pub record Counted (file : List ℕ) (cost : ℕ) (words : List ℕ) (counts : Counts) (place : ℕ) : Type 0 where
  pub before : List (List ℕ)
  pub laid : Laid file before place
  pub are : counts ≡ counts_of before cost
  pub room : length words ≡ words_max

module _ (file : List ℕ) (cost : ℕ) where
  -- before the first record
  pub counted_none : {words : List ℕ} {counts : Counts} → length words ≡ words_max → counts ≡ no_counts → Counted file cost words counts 0
  counted_none room e = record { before = []; laid = none; are = e ∙ counts_none cost; room = room }

  module _ {words : List ℕ} {counts : Counts} {place : ℕ} (c : Counted file cost words counts place) where
    -- a record more
    pub counted-more : {size begin : ℕ} {words' : List ℕ} {counts' : Counts} → cost ≤ cost_max → record_at file place ≡ read size begin → length words' ≡ words_max →
        counts' ≡ with_tally counts (tally_of (part_of file begin size) cost) → Counted file cost words' counts' (begin + size)
    counted-more {size} {begin} allowed here room e = let part = part_of file begin size in record {
      before = c.before ++ part ∷ [];
      laid = (laid_more file c.laid here).2;
      are = e ∙ ap (λ (x : Counts). with_tally x (tally_of part cost)) c.are ∙ sym (counts-more c.before part cost allowed);
      room = room;
    }

    -- no count is larger than the file's bytes allow
    pub counted-few : length file ≤ file_max → place < length file → length c.before < file_max
    counted-few short h = let p = laid-past file c.laid in omega (arith, p.few)

    pub counted-sized : cost ≤ cost_max → Sized (length c.before) counts
    counted-sized allowed = rw c.are (counts-sized cost allowed c.before)

    -- the walk came to the file's end, or was ended
    pub counted-whole : length file ≤ place → record { answer = accepted counts.records; counts = counts } ≡ counted (walk file) cost
    unfolding counts_of
    counted-whole h = rw (laid-whole file c.laid h, c.are)

    pub counted-stopped : {r : Refusal} → place < length file → record_at file place ≡ Err r → record { answer = refusal.refused r; counts = counts } ≡ counted (walk file) cost
    counted-stopped h e = rw (laid-refused file c.laid h e, c.are)
