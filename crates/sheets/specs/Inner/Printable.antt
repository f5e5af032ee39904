-- What the sheet of a plan asks of the page and of the plan's words.
use Rattle.std.specs.Prelude.{List, ℕ, ◌+◌, ◌*◌, ◌≤◌, ◌<◌, length}
use Rattle.plain.specs.At.{at}
use Rattle.tables.specs.Limits.{count_max, density_max}
use Rattle.texts.specs.declared.Page.{Page}
use Rattle.sheets.specs.Sheet.{density_at, sheet_max}

-- a page with room for every sheet behind its end; no invariant of a page, since what is written uses the room up
abbrev pub SheetRoom : Page → Type 0
SheetRoom page = page.end + sheet_max ≤ length page.out.now

-- words that are a plan's: at most 64 segments and 64 nodes, no word missing, and no density above its greatest
pub record Printable (w : List ℕ) : Type 0 where
  pub segments : at w 1 ≤ count_max
  pub nodes : at w 2 ≤ count_max
  pub whole : 3 + 3 * at w 1 + 3 * at w 2 ≤ length w
  pub densities : (v : ℕ) → v < at w 2 → density_at w v ≤ density_max
