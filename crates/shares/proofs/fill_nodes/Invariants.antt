use Rattle.plain.specs.At.{at}
use Rattle.shares.specs.Density.{millionths}
use Rattle.shares.specs.Inner.Spans.{offset_by, span_by}
use Rattle.shares.proofs.Triples.{Tripled}
use Rattle.shares.proofs.fill_nodes.Given as goal

abbrev pub invariant-loop-v : goal.invariant-loop-v
invariant-loop-v l =
    Tripled (offset_by l.sums l.first) (span_by l.sums l.first l.last) (λ k. millionths (at l.executions k) l.over (span_by l.sums l.first l.last k)) l.initial.out l.v l.out
