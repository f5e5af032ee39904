-- What admitting comes to, case by case: its definition is a chain of tests, and each test says a rule.
use mathlib.Core.Path.{◌≡◌, refl}
use mathlib.Core.Logic.{◌⊎◌}
use mathlib.Core.Bool.{true, false}
use mathlib.Core.List.{List}
use Prim.Native.Nat.{ℕ, ◌≤◌, ◌<◌}
use lib.ListN.{length}
use Rattle.plain.specs.Pick.{pick}
use Rattle.plain.proofs.Picks.{pick-case}
use Rattle.refusals.specs.Numbers.{bad_cores, few_words, unsound_board, verdict_no, high_cost}
use Rattle.std.specs.Prelude.{Result, Ok, Err, ⊤}
use Rattle.refusals.specs.declared.Refusal.{Refusal}
use Rattle.refusals.specs.Refusal.{refusal, on_outcome}
use Rattle.tables.specs.Limits.{cost_max}
use Rattle.plans.specs.Words.{words_max}
use Rattle.plans.specs.Calls.{on_task}
use Rattle.plans.proofs.Cases.{Before, before, Tasking, tasking}
use Rattle.plans.proofs.Cases.Before.{dear as too-dear, few as too_few, reads}
use Rattle.boards.specs.declared.Row.{Row}
use Rattle.boards.specs.declared.Change.{Change}
use Rattle.boards.specs.Sound.{Sound, is_sound}
use Rattle.boards.specs.Verdict.{cores_max, verdict}
use Rattle.boards.specs.Change.{on_change, changed, before_asking}
use Rattle.boards.proofs.Cases.{Before as Asked, before as asking}
use Rattle.boards.proofs.Cases.Before.{unsound as no-board, outside as no-count, asks}
use Rattle.admissions.specs.Admission.{Admission, not_admitted}
use Rattle.guards.specs.Guarded.{guarded, guarded_entry, admission}

-- the guard: a refusal is handed on; the verdict is yes; the verdict is no
module _ (rows : List Row) (words : List ℕ) (cores : ℕ) (entry : Admission) where
  pub data Guarding : Admission → Type 0 where
    refused : {r : Refusal} → entry.change ≡ Err r → Guarding entry
    kept : {c : Change} → entry.change ≡ Ok c → verdict (changed rows entry.change) cores ≡ true → Guarding entry
    turned : {c : Change} → entry.change ≡ Ok c → verdict (changed rows entry.change) cores ≡ false → Guarding (not_admitted words (refusal verdict_no 0))

  -- one of the three
  pub guarding : Guarding (guarded rows words cores entry)
  unfolding guarded
  guarding = by entry.change refl
    where
      by : (told : Result Change Refusal) → entry.change ≡ told
          → Guarding (on_change (λ r. entry) (λ c. pick (verdict (changed rows (Ok c)) cores) entry (not_admitted words (refusal verdict_no 0))) told)
      by (Err r) e = refused e
      by (Ok c) e = pick-case Guarding (verdict (changed rows (Ok c)) cores) (λ y. kept e (rw e y)) (λ y. turned e (rw e y))

module _ (bytes words : List ℕ) (rows : List Row) (cores cost : ℕ) where
  -- 26; 16; 17; 15; else what the record's task comes to, with its guarded entry
  pub data Admitting : Admission → Type 0 where
    dear : cost_max < cost → Admitting (not_admitted words (refusal high_cost 0))
    few : cost ≤ cost_max → length words < words_max → Admitting (not_admitted words (refusal few_words 0))
    unsound : cost ≤ cost_max → words_max ≤ length words → (Sound rows → ⊥) → Admitting (not_admitted words (refusal unsound_board 0))
    outside : cost ≤ cost_max → words_max ≤ length words → Sound rows → (cores ≡ 0) ⊎ (cores_max < cores) → Admitting (not_admitted words (refusal bad_cores 0))
    tries : cost ≤ cost_max → words_max ≤ length words → Sound rows → 1 ≤ cores → cores ≤ cores_max → {x : Admission}
        → Tasking (not_admitted words) (guarded_entry rows words cores) bytes cost x → Admitting x

  -- one of the five
  pub admitted : Admitting (admission bytes words rows cores cost)
  unfolding admission
  admitted = by (before (length words) cost)
    where
      asked : cost ≤ cost_max → words_max ≤ length words → {o : Result ⊤ Refusal} → Asked rows cores o →
          Admitting (on_outcome (not_admitted words) (on_task (not_admitted words) (guarded_entry rows words cores) bytes cost) o)
      asked c w (no-board u) = unsound c w u
      asked c w (no-count s a) = outside c w s a
      asked c w (asks s l h) = tries c w s l h (tasking (not_admitted words) (guarded_entry rows words cores) bytes cost c)

      by : {o : Result ⊤ Refusal} → Before (length words) cost o →
          Admitting (on_outcome (not_admitted words) (on_outcome (not_admitted words) (on_task (not_admitted words) (guarded_entry rows words cores) bytes cost) (before_asking (is_sound rows) cores)) o)
      by (too-dear c) = dear c
      by (too_few c w) = few c w
      by (reads c w) = asked c w (asking rows cores)
