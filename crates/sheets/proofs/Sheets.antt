-- Lines one under the other: a line more is one write more, and room for all lines is room for each in its turn.
use mathlib.Core.Path.{◌≡◌, refl, ap, ◌∙◌}
use mathlib.Core.List.{List}
use Prim.Native.Nat.{ℕ, zero, suc, ◌+◌, ◌<◌}
use native.Mathlib.Numerals.{add-one}
use native.Mathlib.Omega.{arith}
use lib.ListN.{length, length-append}
use Rattle.plain.specs.Sums.{sum_to}
use Rattle.plain.proofs.Sums.{sum-under}
use Rattle.texts.specs.declared.Page.{Page}
use Rattle.texts.specs.Inner.Page.{HasRoom, Puts}
use Rattle.texts.proofs.Writes.{◌then◌, kept, puts_none}
use Rattle.sheets.specs.Lines.{lines_to}

-- how many bytes the lines have
pub length-lines_to : (n : ℕ) (line : ℕ → List ℕ) → length (lines_to n line) ≡ sum_to n (λ k. length (line k))
unfolding lines_to sum_to
length-lines_to zero line = refl
length-lines_to (suc n) line = length-append (lines_to n line) (line n) ∙ ap (λ (x : ℕ). x + length (line n)) (length-lines_to n line)

-- before the first line, and a line more
pub lines_none : {page : Page} (n : ℕ) (line : ℕ → List ℕ) → HasRoom page (lines_to n line) → Puts page (lines_to 0 line) page
unfolding lines_to
lines_none {page} n line r = puts_none page (omega (arith, r.fits))

pub lines_more : {p q r : Page} (k : ℕ) (line : ℕ → List ℕ) → Puts p (lines_to k line) q → Puts q (line k) r → Puts p (lines_to (k + 1) line) r
unfolding lines_to
lines_more k line v w = rw add-one (v then w)

-- room for all is room for the next
pub lines-room : {p q : Page} (k n : ℕ) (line : ℕ → List ℕ) → k < n → HasRoom p (lines_to n line) → Puts p (lines_to k line) q → HasRoom q (line k)
lines-room k n line l r v = let w = v.wrote in record {
  fits = omega (
    arith,
    r.fits,
    w.ends,
    kept w,
    length-lines_to n line,
    length-lines_to k line,
    sum-under (λ j. length (line j)) k n l,
  );
}
