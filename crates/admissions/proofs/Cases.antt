-- What noting comes to, case by case: its definition is a chain of tests, and each test says a rule of document 01.
use mathlib.Core.List.{List}
use Prim.Native.Nat.{ℕ, ◌≤◌, ◌<◌}
use lib.ListN.{length}
use Rattle.plain.specs.Pick.{pick}
use Rattle.plain.proofs.Picks.{true-false, pick-case}
use Rattle.refusals.specs.Numbers.{few_words, unsound_board, high_cost}
use Rattle.std.specs.Prelude.{Result, ⊤}
use Rattle.refusals.specs.declared.Refusal.{Refusal}
use Rattle.refusals.specs.Refusal.{refusal, on_outcome}
use Rattle.tables.specs.Limits.{cost_max}
use Rattle.plans.specs.Words.{words_max}
use Rattle.plans.specs.Calls.{on_task}
use Rattle.plans.proofs.Cases.{Before, before, Tasking, tasking}
use Rattle.plans.proofs.Cases.Before.{dear as too-dear, few as too_few, reads}
use Rattle.boards.specs.declared.Row.{Row}
use Rattle.boards.specs.Sound.{Sound, is_sound}
use Rattle.boards.proofs.Sound.{sound-test, test-sound}
use Rattle.admissions.specs.Admission.{Admission, not_admitted, entered, noting}

module _ (bytes words : List ℕ) (rows : List Row) (cost : ℕ) where
  -- 26; 16; 17; else what the record's task comes to, with its entry
  pub data Noting : Admission → Type 0 where
    dear : cost_max < cost → Noting (not_admitted words (refusal high_cost 0))
    few : cost ≤ cost_max → length words < words_max → Noting (not_admitted words (refusal few_words 0))
    unsound : cost ≤ cost_max → words_max ≤ length words → (Sound rows → ⊥) → Noting (not_admitted words (refusal unsound_board 0))
    tries : cost ≤ cost_max → words_max ≤ length words → Sound rows → {x : Admission} → Tasking (not_admitted words) (entered rows words) bytes cost x → Noting x

  -- one of the four
  pub noted : Noting (noting bytes words rows cost)
  unfolding noting
  noted = by (before (length words) cost)
    where
      by : {o : Result ⊤ Refusal} → Before (length words) cost o →
          Noting (on_outcome (not_admitted words) (pick (is_sound rows) (on_task (not_admitted words) (entered rows words) bytes cost) (not_admitted words (refusal unsound_board 0))) o)
      by (too-dear c) = dear c
      by (too_few c w) = few c w
      by (reads c w) = pick-case Noting (is_sound rows)
          (λ e. tries c w (sound-test rows e) (tasking (not_admitted words) (entered rows words) bytes cost c))
          (λ e. unsound c w (λ s. true-false (test-sound s) e))
