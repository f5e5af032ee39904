-- What stands at a place, case by case: each test that the code makes picks one clause.
use mathlib.Core.Path.{◌≡◌, sym, ap, ◌∙◌}
use mathlib.Core.List.{List}
use Prim.Native.Nat.{ℕ, ◌+◌, ◌-◌, ◌≤◌, ◌<◌}
use native.Mathlib.Omega.{arith}
use lib.ListN.{length, take, drop, length-drop}
use Rattle.std.specs.Prelude.{Result, Ok, Err}
use borrow.Author.Tests.{le-leb, lt-leb}
use Rattle.plain.proofs.Lists.{part-from}
use Rattle.refusals.specs.Numbers.{ended}
use Rattle.refusals.specs.declared.Refusal.{Refusal}
use Rattle.refusals.specs.Refusal.{refusal}
use Rattle.numbers.specs.declared.Number.{Number}
use Rattle.numbers.specs.declared.Fault.{Fault}
use Rattle.numbers.specs.Number.{number, record_more}
use Rattle.numbers.proofs.Bounds.{value-bounded}
use Rattle.records.specs.Step.{read}
use Rattle.records.specs.Ranged.{step_of}
use Rattle.records.proofs.Cases.{then-read, then-refused}
use Rattle.files.specs.File.{length_at, record_at}

-- a length by what is found there
pub length-is : (file : List ℕ) (at : ℕ) (r : Result Number Fault) → number record_more (drop at file) ≡ r → length_at file at ≡ step_of at at r
unfolding length_at
length-is file at r e = ap (step_of at at) e

-- as the reader is handed the part from there on
module _ (file : List ℕ) (at : ℕ) where
  abbrev pub Found : Result Number Fault → Type 0
  Found r = r ≡ number record_more (take (length file - at) (drop at file))

  there : (r : Result Number Fault) → Found r → number record_more (drop at file) ≡ r
  there r e = ap (number record_more) (sym (part-from at file)) ∙ sym e

  pub length-found : (r : Result Number Fault) → Found r → step_of at at r ≡ length_at file at
  length-found r e = sym (length-is file at r (there r e))

  pub length-inside : (n : Number) → Found (Ok n) → at ≤ length file → at + n.length ≤ length file
  length-inside n e h = omega (arith, (value-bounded record_more _ _ _ (there (Ok n) e)).within, length-drop at file)

-- a damaged length
pub length-refused : (file : List ℕ) (at : ℕ) {r : Refusal} → length_at file at ≡ Err r → record_at file at ≡ Err r
unfolding record_at
length-refused file at e = then-refused _ _ _ _ e

-- a length that was read: its record runs past the file's end, or is there
module _ (file : List ℕ) (at size begin : ℕ) (e : length_at file at ≡ read size begin) where
  pub record-past : length file < begin + size → record_at file at ≡ Err (refusal ended (length file))
  unfolding record_at
  record-past h = then-read _ _ _ _ _ e ∙ simp (lt-leb _ _ h)

  pub record-here : begin + size ≤ length file → record_at file at ≡ read size begin
  unfolding record_at
  record-here h = then-read _ _ _ _ _ e ∙ simp (le-leb _ _ h)
