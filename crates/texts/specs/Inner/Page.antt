-- What a writer asks of a page, and what it leaves on it.
use Rattle.std.specs.Prelude.{◌≡◌, List, ℕ, ◌+◌, ◌≤◌, length, map}
use Rattle.std.specs.Borrow.{Bor}
use Rattle.texts.specs.declared.Page.{Page}
use Rattle.texts.specs.Inner.Wrote.{Wrote}

-- the page has room for the text behind its end
pub record HasRoom (page : Page) (text : List ℕ) : Type 0 where
  pub fits : page.end + length text ≤ length page.out.now

-- the text was written behind the end, on the same buffer
pub record Puts (before : Page) (text : List ℕ) (after : Page) : Type 0 where
  pub wrote : Wrote before.end text before.out.now after.out.now after.end
  pub same : after.out.ghost_name ≡ before.out.ghost_name

-- a line's words and numbers, as the code passes them
abbrev pub words_of : List (Bor (List ℕ) × ℕ) → List (List ℕ × ℕ)
words_of fields = map (λ f. (f.0.now, f.1)) fields
