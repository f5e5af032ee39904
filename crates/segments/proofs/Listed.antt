-- A segment's threads and its ender, in the lists of all: a list made by a rule has the rule's value at each place, and a list's front has the
-- list's entries; so the writer may be lent the front alone.
use mathlib.Core.Path.{◌≡◌, refl, sym, ap, ◌∙◌}
use mathlib.Core.List.{List}
use Prim.Native.Nat.{ℕ, zero, suc, ◌≤◌, ◌<◌}
use native.Mathlib.Omega.{arith}
use lib.ListN.{length, take, get_or, get_or-map}
use Rattle.std.proofs.lemmas.List.{get_or-take, length-take-le}
use Rattle.plain.specs.At.{at}
use Rattle.segments.specs.declared.Segment.{Segment}
use Rattle.segments.specs.Inner.Ended.{ended, length_by, CutIn}
use Rattle.segments.specs.Inner.Listed.{threads_of, enders_of}
use Rattle.segments.specs.Inner.Words.{CutWords}

module _ (l : List Segment) (j : ℕ) where
  pub at-threads : at (threads_of l) j ≡ (get_or l j (record { threads = 0; ender = 0 })).threads
  at-threads = get_or-map (λ (x : Segment). x.threads) l j (record { threads = 0; ender = 0 })

  pub at-ender : at (enders_of l) j ≡ (get_or l j (record { threads = 0; ender = 0 })).ender
  at-ender = get_or-map (λ (x : Segment). x.ender) l j (record { threads = 0; ender = 0 })

-- the front of s segments
module _ (l : List Segment) (s : ℕ) where
  front-threads : (j : ℕ) → j < s → at (threads_of (take s l)) j ≡ at (threads_of l) j
  front-threads j h = at-threads (take s l) j ∙ ap (λ (x : Segment). x.threads) (get_or-take s l j (record { threads = 0; ender = 0 }) h) ∙ sym (at-threads l j)

  front-ender : (j : ℕ) → j < s → at (enders_of (take s l)) j ≡ at (enders_of l) j
  front-ender j h = at-ender (take s l) j ∙ ap (λ (x : Segment). x.ender) (get_or-take s l j (record { threads = 0; ender = 0 }) h) ∙ sym (at-ender l j)

  module _ (e : List ℕ) where
    -- its cuts are those of all
    front-ended : (j : ℕ) → j ≤ s → ended (enders_of (take s l)) e j ≡ ended (enders_of l) e j
    front-ended zero h = refl
    front-ended (suc j) h = ap (at e) (front-ender j h)

    front-length : (j : ℕ) → j < s → length_by (enders_of (take s l)) e j ≡ length_by (enders_of l) e j
    front-length j h = rw (front-ended (suc j) h, front-ended j (let a = h in omega arith))

    -- what the writer asks of the front holds where it holds of the first s of all
    pub front-in : {room : ℕ} → s ≤ length l → CutIn (threads_of l) (enders_of l) e s room → CutIn (threads_of (take s l)) (enders_of (take s l)) e (length (take s l)) room
    front-in within c = rw (length-take-le s l within) (record {
      few = c.few;
      fits = c.fits;
      threads = λ j h. rw (front-threads j h) (c.threads j h);
      node = λ j h. rw (front-ender j h) (c.node j h);
      up = λ j h. rw (front-ended j (let a = h in omega arith), front-ended (suc j) h) (c.up j h);
    })

    -- and what it leaves is that of the first s of all
    pub front-words : {w₀ w : List ℕ} → s ≤ length l → CutWords (at (threads_of (take s l))) (length_by (enders_of (take s l)) e) (length (take s l)) w₀ w
        → CutWords (at (threads_of l)) (length_by (enders_of l) e) s w₀ w
    front-words {w₀} {w} within c =
        let d : CutWords (at (threads_of (take s l))) (length_by (enders_of (take s l)) e) s w₀ w = rw (length-take-le s l within) at c in
        record {
          room = d.room;
          first = λ j h. d.first j h ∙ front-threads j h;
          second = λ j h. d.second j h ∙ front-length j h;
          third = d.third;
          head = d.head;
          rest = d.rest;
        }
