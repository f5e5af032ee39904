-- `planwriters::size_of` meets its contract: the chain sums what each value takes, and that is what all of them take.
use Rattle.std.proofs.Common.{rules, tests, ◌∙◌}
use Rattle.std.proofs.lemmas.Iterator.{YieldsList-from_slice, YieldsList-from_map}
use Rattle.std.proofs.lemmas.Iterator.Consumers.{sum_by_from_yields_List, fits_by_from_yields_list}
use Rattle.planwriters.proofs.Values.{word_size, size-sum, size-fits}
use Rattle.planwriters.proofs.size_of.Goals as goal

pub sum-requires-clause-fits : goal.sum-requires-clause-fits
sum-requires-clause-fits c =
    fits_by_from_yields_list word_size c.args.values.now c.map.result _ (YieldsList-from_map _ word_size (YieldsList-from_slice c.args.values.now cc) c.map.ensures.closure (λ x r q k. search (rules, tests)))
    (size-fits c.args.values.now c.requires.0 c.requires.1)

pub returns : goal.returns
returns c =
    sum_by_from_yields_List word_size c.args.values.now c.map.result c.sum.result c.sum.ensures.ran
    (YieldsList-from_map _ word_size (YieldsList-from_slice c.args.values.now cc) c.map.ensures.closure (λ x r q k. search (rules, tests)))
    ∙ size-sum c.args.values.now c.requires.0
