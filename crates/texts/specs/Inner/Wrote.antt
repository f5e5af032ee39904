-- What a writer asks of the buffer, and what it promises to the writer after it.
use Rattle.std.specs.Prelude.{◌≡◌, List, ℕ, ◌+◌, ◌≤◌, length}
use Rattle.texts.specs.Wrote.{wrote}

-- the buffer has room for the text from place at on
pub record Room (at : ℕ) (text out : List ℕ) : Type 0 where
  pub fits : at + length text ≤ length out

-- a writer wrote the text at place at of the buffer before, and answers the place past it
pub record Wrote (at : ℕ) (text before after : List ℕ) (end : ℕ) : Type 0 where
  pub room : Room at text before
  pub ends : end ≡ at + length text
  pub reads : after ≡ wrote at text before
