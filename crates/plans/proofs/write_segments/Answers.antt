-- `plans::write_segments` meets its contract: the cut leaves threads and lengths, the deal read off them is the table's own, its numerators go
-- beside them, and the head is written last.
use mathlib.Core.Path.{◌≡◌, ap, ◌∙◌}
use native.Mathlib.Omega.{arith}
use lib.ListN.{length-take}
use Rattle.tables.specs.declared.TaskTable.{TaskTable}
use Rattle.segments.specs.Inner.Words.{CutWords}
use Rattle.segments.proofs.Listed.{front-in, front-words}
use Rattle.shares.specs.declared.Deal.{Deal}
use Rattle.shares.specs.Inner.Asked.{DealIn}
use Rattle.shares.specs.Inner.Written.{Numbered}
use Rattle.shares.proofs.Bounds.{fill-in}
use Rattle.plans.specs.Diagram.{work, path, segment_count, threads_in, length_in}
use Rattle.plans.specs.Shares.{deal_of}
use Rattle.plans.specs.Inner.Drawn.{SegmentsOf}
use Rattle.plans.proofs.Drawn.{path-so, few, cut_in, words-so, deal-so, deal-in}
use Rattle.plans.proofs.Front.{fronted}
use Rattle.plans.proofs.write_segments.Goals as goal
use Rattle.plans.proofs.write_segments.Goals.{Start, After-cut_words, After-deal_of-deal, After-fill_numerators}

-- what the arguments are to a table
abbrev Of : Start → TaskTable → Type 0
Of c t = let a = c.args in SegmentsOf t a.n a.s a.times a.trace.now

pub shared_ref_as_front-cut_words : goal.shared_ref_as_front-cut_words
shared_ref_as_front-cut_words c = few c.requires.0.1

pub cut_words-requires : goal.cut_words-requires
cut_words-requires c =
    let d = c.requires.0.1 in
    front-in c.args.trace.now.segments c.args.s c.args.trace.now.finishes (omega (arith, length-take c.args.s c.args.trace.now.segments)) (cut_in d c.requires.1)

-- after the cut the words hold that table's threads and lengths
words : (c : After-cut_words) (t : TaskTable) → Of (goal.at.After-cut_words c).Start t → CutWords (threads_in t) (length_in t) (segment_count t) c.args.words.now c.cut_words.new.words
words c t d = words-so d (front-words c.args.trace.now.segments c.args.s c.args.trace.now.finishes (omega (arith, length-take c.args.s c.args.trace.now.segments)) c.cut_words.ensures)

-- so they are ready for the deal
dealt : (c : After-cut_words) (t : TaskTable) → Of (goal.at.After-cut_words c).Start t → (let a = c.args in DealIn c.cut_words.new.words a.s a.times.period a.times.work a.times.path)
dealt c t d =
    let room = c.requires.1 in
    let kept = (words c t d).room in
    deal-in d (words c t d) (omega arith)

-- and the deal is the table's own
dealing : (c : After-deal_of-deal) (t : TaskTable) → Of (goal.at.After-deal_of-deal c).Start t → c.deal_of-deal.result ≡ deal_of t
dealing c t d = c.deal_of-deal.ensures ∙ deal-so d (words (goal.at.After-deal_of-deal c).After-cut_words t d)

-- so are the numerators
numbered : (c : After-fill_numerators) (t : TaskTable) → Of (goal.at.After-fill_numerators c).Start t →
    Numbered (deal_of t) t.period (work t) (path t) (segment_count t) c.cut_words.new.words c.fill_numerators.new.words
numbered c t d =
    let e = c.fill_numerators.ensures in
    rw (dealing (goal.at.After-fill_numerators c).After-deal_of-deal t d, d.cut_up.count, d.period, d.work, path-so d) at e

pub returns : goal.returns
returns c = λ t d.
    let room = c.requires.1 in
    let h = few d in
    let cut = words (goal.at.returns c).After-cut_words t d in
    let cut-kept = cut.room in
    let given = numbered (goal.at.returns c).After-fill_numerators t d in
    let kept = given.size in
    fronted t cut given (omega (arith, d.cut_up.count)) (ap (λ (x : Deal). x.over) (dealing (goal.at.returns c).After-deal_of-deal t d)) d.cut_up.count d.count

pub deal_of-deal-requires : goal.deal_of-deal-requires
deal_of-deal-requires c = dealt (goal.at.deal_of-deal-requires c).After-cut_words _ c.requires.0.1

pub fill_numerators-requires : goal.fill_numerators-requires
fill_numerators-requires c =
    rw c.deal_of-deal.ensures (fill-in (dealt (goal.at.fill_numerators-requires c).After-cut_words _ c.requires.0.1))
