-- Two records with their lengths before them are the pair: each stands whole at its place, the second behind the first, and what follows is the rest.
use mathlib.Core.Path.{◌≡◌, ap, ap₂, ◌∙◌}
use mathlib.Core.List.{List, [], ◌∷◌, ◌++◌, append_assoc, append-nil}
use Prim.Native.Nat.{ℕ, suc, ◌+◌, ◌^◌, ◌<◌}
use native.Mathlib.Omega.{arith}
use lib.ListN.{length, length-append}
use Rattle.refusals.specs.Numbers.{bytes_follow}
use Rattle.refusals.specs.declared.Refusal.{Refusal}
use Rattle.refusals.specs.Refusal.{refusal}
use Rattle.numbers.specs.Number.{record_more}
use Rattle.numbers.specs.Shortest.{shortest}
use Rattle.numbers.proofs.Forms as forms
use Rattle.records.specs.Step.{read}
use Rattle.files.specs.File.{record_at}
use Rattle.files.specs.Laid.{file_of}
use Rattle.files.proofs.Cases.{length-is, record-here}
use Rattle.files.proofs.Filed.{lengthed, Stood, one-stands}
use Rattle.planchecks.specs.Pair.{on_pair}
use Rattle.planchecks.proofs.Pairs.{second-followed, second-last, pair-first}

-- a record that stands is found
found : {file bytes rest : List ℕ} {at n : ℕ} → Stood file bytes rest at n → record_at file at ≡ read (length bytes) (at + n)
found {file} {bytes} {at = at} {n} s = record-here file at (length bytes) (at + n) (length-is file at _ (forms.whole-read record_more s.whole.0 s.whole.1)) s.room

module _ {A : Type 0} (refuse : Refusal → A) (go : (bytes plan : List ℕ) → A) (bytes plan rest : List ℕ) where
  -- the two records, and the rest
  abbrev pair : List ℕ
  pair = file_of (bytes ∷ plan ∷ [])

  abbrev input : List ℕ
  input = pair ++ rest

  apart : pair ≡ lengthed bytes ++ lengthed plan
  unfolding file_of
  apart = ap (λ (x : List ℕ). lengthed bytes ++ x) (append-nil (lengthed plan))

  module _ (short : length input < 128 ^ suc record_more) where
    abbrev n : ℕ
    n = length (shortest record_more (length bytes))

    abbrev m : ℕ
    m = length (shortest record_more (length plan))

    first : Stood input bytes (lengthed plan ++ rest) 0 n
    first = one-stands input bytes (lengthed plan ++ rest) 0 (ap (λ (x : List ℕ). x ++ rest) apart ∙ append_assoc (lengthed bytes) (lengthed plan) rest) (omega arith) short

    second : Stood input plan rest (0 + n + length bytes) m
    second = one-stands input plan rest (0 + n + length bytes) first.next first.room short

    end : 0 + n + length bytes + m + length plan ≡ length pair
    end = omega (arith, ap (length {A = ℕ}) apart, length-append (lengthed bytes) (lengthed plan), first.size, second.size)

    pub pair-followed : 0 < length rest → on_pair refuse go input ≡ refuse (refusal bytes_follow (length pair))
    pair-followed h =
        pair-first refuse go input (found first)
        ∙ second-followed refuse go input (0 + n) (length bytes) (found second) (omega (arith, end, length-append pair rest))
        ∙ ap (λ (k : ℕ). refuse (refusal bytes_follow k)) end

    pub pair-whole : length rest ≡ 0 → on_pair refuse go input ≡ go bytes plan
    pair-whole h =
        pair-first refuse go input (found first)
        ∙ second-last refuse go input (0 + n) (length bytes) (found second) (omega (arith, end, length-append pair rest))
        ∙ ap₂ go first.part second.part
