-- What an accepted judgement leaves can be printed: a plan that was read has its counts in 1..64 and all of its triples, and by rules 6 and 8 each density is that of a
-- deadline of at least half the execution, so that it is at most two millions.
use mathlib.Core.Path.{◌≡◌, ap, ◌∙◌}
use mathlib.Core.List.{List}
use Prim.Native.Nat.{ℕ, ◌+◌, ◌*◌, ◌≤◌, ◌<◌}
use native.Mathlib.Omega.{arith}
use lib.ListN.{length, drop, length-append, get_or-append}
use lib.Seq.{get_or-drop}
use Rattle.plain.specs.At.{at}
use Rattle.refusals.specs.After.{After}
use Rattle.tables.specs.declared.TaskTable.{TaskTable}
use Rattle.tables.specs.Limits.{density_max}
use Rattle.shares.specs.Density.{millionths}
use Rattle.shares.specs.Words.{deadline_at, density_at}
use Rattle.shares.proofs.Densities.{density-high}
use Rattle.planreaders.specs.Reading.{filled_with}
use Rattle.planreaders.proofs.Plans.{Shape, plan-shape}
use Rattle.trials.proofs.Firsts.{kept}
use Rattle.judges.specs.Judging.{held_to, broken_of}
use Rattle.judges.proofs.Rules.{equal-all, most-all}
use Rattle.sheets.specs.Inner.Printable.{Printable}
use Rattle.judges.proofs.Accepting.{Accepting}

-- the densities of a plan that keeps the rules
density-most : (t : TaskTable) (w : List ℕ) → broken_of t w ≡ 0 → (v : ℕ) → v < t.count → density_at w v ≤ density_max
density-most t w e v h =
    let half = most-all t.count (λ v. at t.execution v * at w 0) (λ v. 2 * deadline_at w v) (kept (held_to t) w e 6) v h in
    let is = equal-all t.count (density_at w) (λ v. millionths (at t.execution v) (at w 0) (deadline_at w v)) (kept (held_to t) w e 8) v h in
    rw is (density-high (at t.execution v) (at w 0) (deadline_at w v) half)

-- a plan's words, with others behind them
module _ {id : ℕ} {found : List ℕ} (s : Shape id found) (words : List ℕ) where
  abbrev filled : List ℕ
  filled = filled_with found words

  at-found : (k : ℕ) → k < 3 + 3 * at found 1 + 3 * at found 2 → at filled k ≡ at found k
  at-found k h = get_or-append found _ 0 k (omega (arith, s.size))

  segments-same : at filled 1 ≡ at found 1
  segments-same = at-found 1 (omega arith)

  nodes-same : at filled 2 ≡ at found 2
  nodes-same = at-found 2 (omega arith)

  density-same : (v : ℕ) → v < at found 2 → at (drop (3 + 3 * at filled 1) filled) (3 * v + 2) ≡ density_at found v
  density-same v h =
      get_or-drop (3 + 3 * at filled 1) filled (3 * v + 2) 0
      ∙ ap (λ (s : ℕ). at filled (3 + 3 * s + (3 * v + 2))) segments-same
      ∙ at-found (3 + 3 * at found 1 + (3 * v + 2)) (omega arith)

  filled-printable : ((v : ℕ) → v < at found 2 → density_at found v ≤ density_max) → Printable filled
  filled-printable most = record {
    segments = rw segments-same s.segments-high;
    nodes = rw nodes-same s.nodes-high;
    whole = rw (segments-same, nodes-same) (omega (arith, length-append found (drop (length found) words), s.size));
    densities = λ v l. let h = rw nodes-same at l in rw (density-same v h) (most v h);
  }

pub printable : {plan words : List ℕ} {t : TaskTable} {x : After (List ℕ)} → Accepting plan words t x → Printable x.lent
printable {plan} {words} {t} a =
    rw a.is (filled-printable (plan-shape plan a.read) words (λ v h. density-most t a.found a.kept v (rw a.nodes at h)))
