-- `graphs::Words::end` meets its contract: the first byte of the word that follows, if one does, says whether it is a comment, and the last test is that of 21.
use Rattle.std.proofs.Common.{◌≡◌, length, nat_lt, sym, ◌∙◌, arith}
use borrow.Author.Tests.{eq-eqb, ne_eqb}
use Rattle.graphs.specs.Expected.Next.{done}
use Rattle.graphs.specs.Graph.{unless_all_zero}
use Rattle.graphs.specs.Inner.Taken.{reading_at}
use Rattle.graphs.proofs.Ends.{ends-other, ends, nothing_runs, some_runs}
use Rattle.graphs.proofs.Words.end.Goals as goal
use Rattle.graphs.proofs.Words.end.Goals.{After-all_zero, else-commented-via-then-commented+else-self-place-ne35, else-commented-via-else-commented}

pub returns-then-self-place-ne35 : goal.returns-then-self-place-ne35
returns-then-self-place-ne35 c = rw (c.no_graph.ensures, c.at.ensures) (sym (ends-other _ _ _ c.word_at-place.ensures _ c.if-commented.true (ne_eqb _ _ c.if-self-place-ne35.true)))

-- the reading has ended, by a comment or with the text
ended : (c : After-all_zero) → (let a = c.args in
    reading_at a.self.now.text.now (done a.table) a.self.now.at ≡ unless_all_zero (nat_lt c.word_at-place.result (length a.self.now.text.now)) a.table)
ended c = ends _ _ _ c.word_at-place.ensures _ (λ h. elim c.else-commented.branch [
  | else-commented-via-then-commented+else-self-place-ne35 w ↦ eq-eqb _ _ w.if-self-place-ne35.false
  | else-commented-via-else-commented w ↦ absurd (omega (arith, w.if-commented.false))
])

pub returns-then-all_zero : goal.returns-then-all_zero
returns-then-all_zero c = rw (c.no_graph-then-all_zero.ensures, c.at-then-all_zero.ensures)
    (sym (ended (goal.at.returns-then-all_zero c).After-all_zero ∙ nothing_runs _ _ (sym c.all_zero.ensures ∙ c.if-all_zero.true)))

pub returns : goal.returns
returns c = sym (ended (goal.at.returns c).After-all_zero ∙ some_runs _ _ (sym c.all_zero.ensures ∙ c.if-all_zero.false))
