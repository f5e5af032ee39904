-- `graphs::Words::take_task` meets its contract: its number, its time and the number of its predecessors are the words that are due, one after the other, and its predecessors are the rest.
use Rattle.std.proofs.Common.{◌≡◌, Ok, sym, ◌∙◌}
use Rattle.refusals.specs.Numbers.{bad_execution, bad_parent}
use Rattle.tables.specs.Limits.{execution_max}
use Rattle.graphs.specs.Inner.Taken.{number_taken}
use Rattle.graphs.proofs.Steps.{taken-out}
use Rattle.graphs.proofs.Chain.{number-out, time-out, many-out, many-on}
use Rattle.graphs.proofs.Words.take_task.Goals as goal
use Rattle.graphs.proofs.Words.take_task.Goals.{In_ok-take_number, In_ok-time, In_ok-count}

-- one text all along
same-2 : (c : In_ok-time) → c.take_number-2.new.self.text ≡ c.args.self.now.text
same-2 c = c.in_ok-time.ensures.text ∙ c.in_ok-take_number.ensures.text

same-3 : (c : In_ok-count) → c.take_number-3.new.self.text ≡ c.args.self.now.text
same-3 c = c.in_ok-count.ensures.text ∙ same-2 (goal.at-In_ok-count c).In_ok-time

-- so each word is that of the text past the one before
time : (c : In_ok-time) → Ok c.in_ok-time.time ≡ number_taken bad_execution 0 execution_max c.args.self.now.text.now c.in_ok-take_number.field-0.end
time c = rw (c.in_ok-take_number.ensures.past, sym c.in_ok-take_number.ensures.text) c.in_ok-time.ensures.taken

count : (c : In_ok-count) → Ok c.in_ok-count.count ≡ number_taken bad_parent 0 c.args.n c.args.self.now.text.now c.in_ok-time.time.end
count c = rw (c.in_ok-time.ensures.past, sym (same-2 (goal.at-In_ok-count c).In_ok-time)) c.in_ok-count.ensures.taken

pub returns-in_err-take_number-clause-leads : goal.returns-in_err-take_number-clause-leads
returns-in_err-take_number-clause-leads c t same = taken-out _ _ _ c.from_residual.ensures.1 (number-out _ _ _ _ c.requires.0 c.requires.1 _ c.in_err-take_number.ensures.taken t)

pub returns-in_err-time-clause-leads : goal.returns-in_err-time-clause-leads
returns-in_err-time-clause-leads c t same = taken-out _ _ _ c.from_residual-in_err-time.ensures.1
    (time-out _ _ _ _ c.requires.0 c.requires.1 c.in_ok-take_number.ensures.taken c.in_err-time.field-0.0
    (rw (c.in_ok-take_number.ensures.past, sym c.in_ok-take_number.ensures.text) c.in_err-time.ensures.taken) t)

pub returns-in_err-count-clause-leads : goal.returns-in_err-count-clause-leads
returns-in_err-count-clause-leads c t same = let d = (goal.at.returns-in_err-count-clause-leads c).In_ok-time in taken-out _ _ _ c.from_residual-in_err-count.ensures.1
    (many-out _ _ _ _ c.requires.0 c.requires.1 c.in_ok-take_number.ensures.taken (time d) t same c.in_err-count.field-0.0
    (rw (c.in_ok-time.ensures.past, sym (same-2 d)) c.in_err-count.ensures.taken))

pub returns-in_err-set-clause-leads : goal.returns-in_err-set-clause-leads
returns-in_err-set-clause-leads c t same = let e = (goal.at.returns-in_err-set-clause-leads c).In_ok-count in taken-out _ _ _ c.from_residual-in_err-set.ensures.1
    (many-on _ _ _ _ c.requires.0 c.requires.1 c.in_ok-take_number.ensures.taken (time (goal.at-In_ok-count e).In_ok-time) t same (count e)
    ∙ rw (c.in_ok-count.ensures.past, sym (same-3 e)) (c.in_err-set.ensures.leads t _ _ same))

pub returns-clause-leads : goal.returns-clause-leads
returns-clause-leads c t same = let e = (goal.at.returns-clause-leads c).In_ok-count in
    many-on _ _ _ _ c.requires.0 c.requires.1 c.in_ok-take_number.ensures.taken (time (goal.at-In_ok-count e).In_ok-time) t same (count e)
    ∙ rw (c.in_ok-count.ensures.past, sym (same-3 e)) (c.in_ok-set.ensures.leads t _ _ same)
