-- A written plan can be printed: its counts are at most 64, no word is missing, and each density is at most two millions. And a text that is
-- known under another name is written all the same.
use mathlib.Core.Path.{◌≡◌, ap}
use mathlib.Core.List.{List}
use Prim.Native.Nat.{ℕ, ◌+◌, ◌*◌, ◌≤◌, ◌<◌}
use native.Mathlib.Omega.{arith}
use borrow.Author.Tests.{lt-ltb, le-ltb}
use lib.ListN.{length, drop, length-drop}
use Rattle.tables.specs.declared.TaskTable.{TaskTable}
use Rattle.segments.proofs.Segments.{segments-le}
use Rattle.plans.specs.Diagram.{finish}
use Rattle.plans.specs.Words.{words_max, written}
use Rattle.plans.specs.Inner.Planned.{Planned}
use Rattle.plans.proofs.Figures.{plan-fits, figures-in}
use Rattle.plans.proofs.Read.{at-segments, at-nodes}
use Rattle.texts.specs.declared.Page.{Page}
use Rattle.texts.specs.Inner.Wrote.{Wrote}
use Rattle.texts.specs.Inner.Page.{Puts}
use Rattle.sheets.specs.Sheet.{sheet_max}
use Rattle.sheets.specs.Printed.{Prints}
use Rattle.sheets.specs.Inner.Printable.{Printable}

-- the text under another name, in a buffer and on a page
pub wrote-same : {at end : ℕ} {text text' out out₁ : List ℕ} → text ≡ text' → Wrote at text out out₁ end → Wrote at text' out out₁ end
wrote-same e w = rw e at w

pub puts-same : {text text' : List ℕ} {p q : Page} → text ≡ text' → Puts p text q → Puts p text' q
puts-same e w = rw e at w

-- a buffer with room, and one without
pub prints : {text after : List ℕ} {p q : Page} → p.end ≡ 0 → sheet_max ≤ length p.out.now → Puts p text q → after ≡ q.out.now → Prints text p.out.now q.end after
prints {text} {p = p} {q = q} start h w same =
    let e : q.end ≡ length text = omega (arith, w.wrote.ends) in
    (rw (same, le-ltb (length p.out.now) sheet_max h, e, w.wrote.reads, start), omega (arith, w.wrote.room.fits))

pub leaves : (text : List ℕ) {out : List ℕ} → length out < sheet_max → Prints text out 0 out
leaves text {out} h = (rw (lt-ltb (length out) sheet_max h), omega arith)

-- room for n triples in the words from a place on
pub part_room : (w : List ℕ) (from n : ℕ) → from + 3 * n ≤ length w → 3 * n ≤ length (drop from w)
part_room w from n h = rw length-drop (omega arith)

module _ {t : TaskTable} (ok : Planned t) (words : List ℕ) (room : words_max ≤ length words) where
  pub printable : {w : List ℕ} → w ≡ written t words → Printable w
  printable e = rw e (record {
    segments = rw (at-segments t words) (let a = segments-le t.count (finish t) in let b = ok.range.count-high in omega arith);
    nodes = rw (at-nodes t words) ok.range.count-high;
    whole = rw (at-segments t words, at-nodes t words) (plan-fits ok words room);
    densities = rw (at-nodes t words) (figures-in ok words room (ap (λ (s : ℕ). drop (3 + 3 * s) (written t words)) (at-segments t words))).1;
  })
