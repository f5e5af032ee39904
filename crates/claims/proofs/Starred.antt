-- The starred tables: each definition is a rule that computes, so antt computes what each line says.
use mathlib.Core.Path.{refl}
use Rattle.plain.specs.At.{tab}
use Rattle.plain.specs.Pick.{up_to}
use Rattle.plain.specs.Sums.{sum_to, max_to}
use Rattle.sets.specs.Member.{bit}
use Rattle.sets.specs.Size.{size_to}
use Rattle.sets.specs.Greatest.{greatest}
use Rattle.sets.specs.Rule.{set_of}
use Rattle.sets.specs.Without.{without_member}
use Rattle.tables.specs.Runs.{all_zero}
use Rattle.numbers.specs.Number.{number, before}
use Rattle.records.specs.Step.{and_then}
use Rattle.records.specs.Ranged.{whole_in, ranged_in}
use Rattle.records.specs.Parents.{parents, parent_set}
use Rattle.records.specs.Nodes.{nothing_follows, nodes}
use Rattle.records.specs.Reading.{reading_of}
use Rattle.ways.specs.Closure.{union, stage, stages, reach, some, loops}
use Rattle.rings.specs.Inside.{inside}
use Rattle.rings.specs.Ring.{smallest, unless_needed, ring_after}
use Rattle.ways.specs.Ways.{ends_after, ends, begins}
use Rattle.ways.specs.Totals.{work_of, longest_of, path_of}
use Rattle.segments.specs.Cut.{next_to, next, cut, segments, length_of}
use Rattle.segments.specs.Running.{runs, running_in, running, threads}
use Rattle.segments.specs.Share.{share}
use Rattle.shares.specs.Heavy.{is_heavy, heavies, heavy_work, light_length}
use Rattle.shares.specs.Deal.{deal, numerator}
use Rattle.shares.specs.Density.{millionths}
use Rattle.shares.specs.Figures.{smaller, smallest_to}
use Rattle.shares.specs.Triples.{triples}
use Rattle.plans.specs.Shares.{numerator_of, deadline, shortest, offset, density}
use Rattle.plans.specs.Words.{front_words, node_words}
use Rattle.plans.specs.Calls.{before_reading, on_table, on_task, plan_call}
use Rattle.boards.specs.Find.{place_of}
use Rattle.plain.specs.Tests.{all_to}
use Rattle.boards.specs.Sound.{is_sound_row, is_new, is_sound}
use Rattle.boards.specs.Verdict.{sum_of, largest_of}
use Rattle.boards.specs.Change.{placed, before_asking, asked_by}
use Rattle.admissions.specs.Admission.{entered, noting}
use Rattle.texts.specs.Decimal.{digits, decimal}
use Rattle.texts.specs.Lines.{field, line}
use Rattle.sheets.specs.Lines.{lines_to}
use Rattle.sheets.specs.Sheet.{sheet_text}
use Rattle.claims.specs.Calls.{after_call, after_calls}
use Rattle.claims.specs.Starred.{kinds_to, starred, Starred}
use Rattle.claims.specs.Starred.AllCome.{done, ◌also◌}

-- every line of the list
pub all_come : Starred
unfolding starred kinds_to after_call after_calls sheet_text lines_to line field decimal digits noting entered placed asked_by before_asking is_sound is_sound_row is_new all_to sum_of largest_of place_of plan_call before_reading on_task on_table front_words node_words numerator_of deadline shortest offset density share deal numerator millionths smaller smallest_to triples is_heavy heavies heavy_work light_length segments length_of cut next next_to running running_in runs threads begins ends ends_after work_of longest_of path_of loops some reach stages stage union inside smallest unless_needed ring_after without_member reading_of nodes nothing_follows all_zero parent_set parents and_then ranged_in whole_in number before tab greatest set_of size_to bit sum_to max_to up_to
all_come =
    refl also refl also refl also refl also refl also refl also refl also refl also refl also refl also refl also refl also refl also refl also refl also refl also refl also refl also refl also refl also refl also refl also refl also refl also refl also refl also done
