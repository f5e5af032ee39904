-- A walk by the records that lie in the file. What it still does from a place on depends on that place alone, so past the records that lie before it, it is the walk of
-- what is left. At each place a record stands or the walk is refused, each record takes a byte at least, and so every file comes to its end or to a refusal.
use Prim.Native.Nat.{ℕ, zero, suc, ◌+◌, ◌-◌, ◌≤◌, ◌<◌}
use mathlib.Core.Path.{◌≡◌, refl, sym, ap, ◌∙◌}
use mathlib.Core.Logic.{⊎_elim}
use mathlib.Core.List.{List, [], ◌∷◌, ◌++◌, append_assoc, append-nil}
use native.Mathlib.Omega.{arith}
use lib.ListN.{length, drop, length-append, length-drop}
use borrow.Author.Tests.{le-leb, lt-leb}
use Rattle.std.specs.Prelude.{Result, Ok, Err, ⊤}
use Rattle.plain.proofs.Lists.{lt-or-ge}
use Rattle.refusals.specs.Numbers.{ended, too_long, not_shortest}
use Rattle.refusals.specs.declared.Refusal.{Refusal}
use Rattle.refusals.specs.Refusal.{refusal}
use Rattle.numbers.specs.Number.{record_more}
use Rattle.numbers.specs.Form.{Led, Whole, Ends, Long, Padded}
use Rattle.numbers.proofs.Forms as forms
use Rattle.records.specs.declared.Read.{Read}
use Rattle.records.specs.Step.{Step, read}
use Rattle.records.proofs.Cases.{then-read, then-refused}
use Rattle.records.proofs.Expected.{ByRule, by-rule}
use Rattle.files.specs.File.{length_at, record_at, part_of, Walk, walk_from, walk}
use Rattle.files.specs.Laid.{Laid, Refuses}
use Rattle.files.specs.Laid.Laid.{none, more}
use Rattle.files.specs.Laid.Refuses.{ends, long, padded, past}
use Rattle.files.proofs.Cases.{length-is, length-refused, record-past, record-here}

-- the walk of what is left, with the records before it in front
abbrev behind : List (List ℕ) → Walk → Walk
behind records w = record { records = records ++ w.records; outcome = w.outcome }

-- a walk that came to its end, or was ended, after these records
abbrev pub walked : List (List ℕ) → Result ⊤ Refusal → Walk
walked records o = record { records = records; outcome = o }

-- a record, as it is read
abbrev at_once : (size begin : ℕ) → Read
at_once size begin = record { value = size; next = begin }

module _ (file : List ℕ) where
  -- a length by its form
  whole-read : (at : ℕ) {v n : ℕ} → Whole record_more (drop at file) v n → length_at file at ≡ read v (at + n)
  whole-read at (f, h) = length-is file at _ (forms.whole-read record_more f h)

  ends_read : (at : ℕ) → Ends record_more (drop at file) → record_at file at ≡ Err (refusal ended at)
  ends_read at (k, h, l) = length-refused file at (length-is file at _ (forms.ends_read record_more l h))

  long-read : (at : ℕ) → Long record_more (drop at file) → record_at file at ≡ Err (refusal too_long at)
  long-read at (rest, l) = length-refused file at (length-is file at _ (forms.long-read record_more l))

  padded-read : (at : ℕ) → Padded record_more (drop at file) → record_at file at ≡ Err (refusal not_shortest at)
  padded-read at (k, rest, z, h, l) = length-refused file at (length-is file at _ (forms.padded-read record_more l z h).2)

  -- what stands at a place, by the form of the length there
  pub data Stands (at : ℕ) : Step → Type 0 where
    here : {size n : ℕ} → Whole record_more (drop at file) size n → at + n + size ≤ length file → Stands at (read size (at + n))
    over : {size n : ℕ} → Whole record_more (drop at file) size n → length file < at + n + size → Stands at (Err (refusal ended (length file)))
    cut : Ends record_more (drop at file) → Stands at (Err (refusal ended at))
    wide : Long record_more (drop at file) → Stands at (Err (refusal too_long at))
    thin : Padded record_more (drop at file) → Stands at (Err (refusal not_shortest at))

  pub stands : (at : ℕ) → Stands at (record_at file at)
  stands at = by (forms.found record_more (drop at file))
    where
      by : forms.Found record_more (drop at file) → Stands at (record_at file at)
      by (forms.Found.ends f) = rw (ends_read at f) (cut f)
      by (forms.Found.long f) = rw (long-read at f) (wide f)
      by (forms.Found.padded f) = rw (padded-read at f) (thin f)
      by (forms.Found.whole size n w) = ⊎_elim
          (λ (h : length file < at + n + size). rw (record-past file at size (at + n) (whole-read at w) h) (over w h))
          (λ (h : at + n + size ≤ length file). rw (record-here file at size (at + n) (whole-read at w) h) (here w h))
          (lt-or-ge (length file) (at + n + size))

  -- the walk from a place on: at the file's end, at a refusal, at a record
  module _ (k at : ℕ) where
    walk_end : length file ≤ at → walk_from k file at ≡ walked [] (Ok tt)
    unfolding walk_from
    walk_end h = by k
      where
        by : (k : ℕ) → walk_from k file at ≡ walked [] (Ok tt)
        by zero = refl
        by (suc k) = simp (le-leb _ _ h)

    walk-stop : {r : Refusal} → at < length file → record_at file at ≡ Err r → walk_from (suc k) file at ≡ walked [] (Err r)
    unfolding walk_from
    walk-stop h e = simp (lt-leb _ _ h) (then-refused _ _ _ _ e)

    walk-on : {size begin : ℕ} → at < length file → record_at file at ≡ read size begin →
        walk_from (suc k) file at ≡ behind (part_of file begin size ∷ []) (walk_from k file (begin + size))
    unfolding walk_from
    walk-on h e = simp (lt-leb _ _ h) (then-read _ _ _ _ _ e)

  -- records lie inside the file, each with a byte at least, and past them the walk is that of what is left
  pub record Past (records : List (List ℕ)) (at : ℕ) : Type 0 where
    pub inside : at ≤ length file
    pub few : length records ≤ at
    pub is : walk file ≡ behind records (walk_from (length file - length records) file at)

  pub laid-past : {records : List (List ℕ)} {at : ℕ} → Laid file records at → Past records at
  laid-past none = record { inside = omega arith; few = omega arith; is = let e : length file - 0 ≡ length file = omega arith in rw e }
  laid-past (more {records} {place} {size} {n} l w h) =
      let p = laid-past l in
      let s = forms.form-some w.0 in
      let part = part_of file (place + n) size in
      let some = length-append records (part ∷ []) in
      let left : length file - length records ≡ suc (length file - length (records ++ part ∷ [])) = omega (arith, p.few) in
      let next = walk-on (length file - length (records ++ part ∷ [])) place (omega arith) (record-here file place size (place + n) (whole-read place w) h) in
      record {
        inside = h;
        few = omega (arith, p.few);
        is = p.is ∙ ap (λ (x : ℕ). behind records (walk_from x file place)) left ∙ ap (behind records) next
            ∙ ap (λ (x : List (List ℕ)). walked x (walk_from (length file - length (records ++ part ∷ [])) file (place + n + size)).outcome) (sym (append_assoc records (part ∷ []) _));
      }

  module _ {records : List (List ℕ)} {at : ℕ} (l : Laid file records at) where
    -- where the file ends, so does the walk
    pub laid-whole : length file ≤ at → walk file ≡ walked records (Ok tt)
    laid-whole h = (laid-past l).is ∙ ap (behind records) (walk_end (length file - length records) at h) ∙ ap (λ (x : List (List ℕ)). walked x (Ok tt)) (append-nil records)

    -- a refusal ends it
    pub laid-refused : {r : Refusal} → at < length file → record_at file at ≡ Err r → walk file ≡ walked records (Err r)
    laid-refused {r} h e =
        let p = laid-past l in
        let left : length file - length records ≡ suc (length file - length records - 1) = omega (arith, p.few) in
        p.is ∙ ap (λ (x : ℕ). behind records (walk_from x file at)) left ∙ ap (behind records) (walk-stop (length file - length records - 1) at h e)
        ∙ ap (λ (x : List (List ℕ)). walked x (Err r)) (append-nil records)

    -- and past a record one more lies before the place
    pub laid_more : {size begin : ℕ} → record_at file at ≡ read size begin → (begin + size ≤ length file) × (at < begin + size) × Laid file (records ++ part_of file begin size ∷ []) (begin + size)
    laid_more {size} {begin} e = by (stands at) e
      where
        by : {s : Step} → Stands at s → s ≡ read size begin → (begin + size ≤ length file) × (at < begin + size) × Laid file (records ++ part_of file begin size ∷ []) (begin + size)
        by (here {size = v} {n = n} w h) e = let p : at_once v (at + n) ≡ at_once size begin = cc in let q : v ≡ size = ap (λ (r : Read). r.value) p in let b : at + n ≡ begin = ap (λ (r : Read). r.next) p in
            rw (← q, ← b) (h, omega (arith, forms.form-some w.0), more l w h)
        by (over w h) e = cc
        by (cut f) e = cc
        by (wide f) e = cc
        by (thin f) e = cc

    -- so where no whole record stands at the place, these are all
    pub laid-all : ((size n : ℕ) → Whole record_more (drop at file) size n → length file < at + n + size) → (walk file).records ≡ records
    laid-all last = ⊎_elim
        (λ (h : at < length file). by h (stands at) refl)
        (λ (h : length file ≤ at). ap (λ (w : Walk). w.records) (laid-whole h))
        (lt-or-ge at (length file))
      where
        stopped-at : at < length file → {r : Refusal} → record_at file at ≡ Err r → (walk file).records ≡ records
        stopped-at h e = ap (λ (w : Walk). w.records) (laid-refused h e)

        by : at < length file → {s : Step} → Stands at s → record_at file at ≡ s → (walk file).records ≡ records
        by h (here w f) e = absurd (omega (arith, last _ _ w))
        by h (over w f) e = stopped-at h e
        by h (cut f) e = stopped-at h e
        by h (wide f) e = stopped-at h e
        by h (thin f) e = stopped-at h e

  -- a damaged length has a byte
  led-some : (at : ℕ) {k : ℕ} {rest : List ℕ} → 0 < k → Led k (drop at file) rest → at < length file
  led-some at h l = omega (arith, by l h, length-drop at file)
    where
      by : {k : ℕ} {s rest : List ℕ} → Led k s rest → 0 < k → 0 < length s
      by Led.none h = absurd (omega arith)
      by (Led.byte f r) h = omega arith

  -- a rule's refusal ends the walk
  stopped_by : {records : List (List ℕ)} {at : ℕ} {r : Refusal} → Laid file records at → at < length file → record_at file at ≡ Err r → (walk file).outcome ≡ Err r
  stopped_by l h e = ap (λ (w : Walk). w.outcome) (laid-refused l h e)

  pub rule-refused : {k place : ℕ} → Refuses file k place → (walk file).outcome ≡ Err (refusal k place)
  rule-refused (ends {place = at} l h f) = stopped_by l h (ends_read at f)
  rule-refused (long {place = at} l f) = stopped_by l (led-some at (omega arith) f.1) (long-read at f)
  rule-refused (padded {place = at} l f) = stopped_by l (led-some at f.2 f.4) (padded-read at f)
  rule-refused (past {place = at} {size = size} {n = n} l w h) =
      stopped_by l (omega (arith, forms.form-some w.0, forms.form-within w.0, length-drop at file)) (record-past file at size (at + n) (whole-read at w) h)

  -- what a file comes to
  pub data Comes : Walk → Type 0 where
    whole : {records : List (List ℕ)} → Laid file records (length file) → Comes (walked records (Ok tt))
    stopped : {records : List (List ℕ)} {at k place : ℕ} → Laid file records at → Refuses file k place → Comes (walked records (Err (refusal k place)))

  -- what stands at a place, and then `again` goes on past it; or this is the end
  comes-at : {records : List (List ℕ)} (at : ℕ) → Laid file records at →
      ((later : ℕ) (others : List (List ℕ)) → at < later → Laid file others later → Comes (walk file)) → Comes (walk file)
  comes-at at l again = ⊎_elim
      (λ (h : at < length file). by h (stands at) refl)
      (λ (h : length file ≤ at). let q : at ≡ length file = omega (arith, (laid-past l).inside) in rw (laid-whole l h) (whole (rw q at l)))
      (lt-or-ge at (length file))
    where
      by : at < length file → {s : Step} → Stands at s → record_at file at ≡ s → Comes (walk file)
      by h (here w f) e = again _ _ (omega (arith, forms.form-some w.0)) (more l w f)
      by h (over w f) e = rw (laid-refused l h e) (stopped l (past l w f))
      by h (cut f) e = rw (laid-refused l h e) (stopped l (ends l h f))
      by h (wide f) e = rw (laid-refused l h e) (stopped l (long l f))
      by h (thin f) e = rw (laid-refused l h e) (stopped l (padded l f))

  -- from a place on, with at most so many bytes left
  comes-from : (left at : ℕ) {records : List (List ℕ)} → length file ≤ at + left → Laid file records at → Comes (walk file)
  comes-from zero at b l = comes-at at l λ later others g m. absurd (omega (arith, (laid-past m).inside))
  comes-from (suc left) at b l = comes-at at l λ later others g m. comes-from left later (omega arith) m

  pub comes : Comes (walk file)
  comes = comes-from (length file) 0 (omega arith) none

  -- a refusal is by its rule
  pub refused-rule : (r : Refusal) → (walk file).outcome ≡ Err r → ByRule (Refuses file) r
  refused-rule r q = by comes q
    where
      by : {w : Walk} → Comes w → w.outcome ≡ Err r → ByRule (Refuses file) r
      by (whole l) e = cc
      by (stopped l f) e = by-rule (Refuses file) f e
