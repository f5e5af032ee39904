-- What an accepted task adds stands in its plan's words: the head has its segments and nodes, the triples of the segments their threads, and those of the nodes their densities.
use mathlib.Core.Path.{◌≡◌, ap, ◌∙◌}
use mathlib.Core.List.{List}
use Prim.Native.Nat.{ℕ, ◌+◌, ◌*◌, ◌-◌, ◌≤◌, ◌<◌}
use native.Mathlib.Omega.{arith}
use lib.ListN.{length, take, drop}
use Rattle.plain.specs.Pick.{one}
use Rattle.plain.specs.At.{at}
use Rattle.plain.proofs.Sums.{sum_same}
use Rattle.tables.specs.declared.TaskTable.{TaskTable}
use Rattle.tables.specs.Limits.{count_max}
use Rattle.segments.proofs.Segments.{segments-le}
use Rattle.shares.specs.Heavy.{is_heavy, heavies}
use Rattle.shares.specs.Words.{threads_at}
use Rattle.shares.specs.Inner.Asked.{DealIn}
use Rattle.plans.specs.declared.Planning.{Planning}
use Rattle.plans.specs.Diagram.{finish, work, path, segment_count, threads_in}
use Rattle.plans.specs.Words.{words_max}
use Rattle.plans.proofs.Drawn.{holds-deal}
use Rattle.plans.proofs.Read.{at-segments, at-nodes, segments-held, length-written, words-fit}
use Rattle.plans.proofs.Figures.{node_part, part-lent}
use Rattle.buildings.specs.Task.{heavy_in}
use Rattle.buildings.specs.Inner.PlanOf.{PlanOf}

module _ {t : TaskTable} {w : List ℕ} {period : ℕ} {p : Planning} (of : PlanOf t w period p) where
  -- no word is missing
  pub plan-long : words_max ≤ length w
  plan-long = rw of.plan (let a = words-fit of.totals.table in let b = of.room in rw (length-written t of.lent (omega arith)) b)

  -- the head
  pub segments-are : at w 1 ≡ segment_count t
  segments-are = ap (λ (l : List ℕ). at l 1) of.plan ∙ at-segments t of.lent

  pub nodes-are : at w 2 ≡ t.count
  nodes-are = ap (λ (l : List ℕ). at l 2) of.plan ∙ at-nodes t of.lent

  pub segments-few : at w 1 ≤ count_max
  segments-few = rw segments-are (let a = segments-le t.count (finish t) in let b = of.totals.table.range.count-high in omega arith)

  -- the segments
  threads-are : (j : ℕ) → j < segment_count t → threads_at w j ≡ threads_in t j
  threads-are = rw of.plan (segments-held t of.lent).threads

  pub deal-in : DealIn w (at w 1) period p.work p.path
  deal-in = rw (segments-are, of.period-is, of.totals.work, of.totals.path) (holds-deal of.totals.table threads-are (rw of.plan (segments-held t of.lent).lengths) plan-long)

  pub heavy-are : heavies period p.work p.path (at w 1) (threads_at w) ≡ heavy_in t
  unfolding heavies
  heavy-are = rw (segments-are, of.period-is, of.totals.work, of.totals.path)
      (sum_same (segment_count t) (λ j. one (is_heavy t.period (work t) (path t) (threads_at w j))) (λ j. one (is_heavy t.period (work t) (path t) (threads_in t j))) (λ j h. rw (threads-are j h)))

  -- the nodes
  pub part-is : take (length w - (3 + 3 * at w 1)) (drop (3 + 3 * at w 1) w) ≡ node_part t of.lent
  part-is = part-lent t of.lent of.plan (ap (λ (s : ℕ). 3 + 3 * s) segments-are)
