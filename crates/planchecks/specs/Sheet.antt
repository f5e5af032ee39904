-- What plancheck prints: "the foreign plan's sheet, or the refusal's line".
use Rattle.std.specs.Prelude.{ℕ, List, eqb, take, replicate}
use Rattle.plain.specs.Pick.{pick}
use Rattle.refusals.specs.Refusal.{refusal_of}
use Rattle.refusals.specs.After.{After}
use Rattle.plans.specs.Words.{words_max}
use Rattle.plans.specs.Calls.{task_of}
use Rattle.judges.specs.Judging.{judge_call}
use Rattle.sheets.specs.Lines.{refused_line}
use Rattle.sheets.specs.Sheet.{sheet_text}
use Rattle.sheets.specs.Printed.{head_of, sheet_cost}
use Rattle.planchecks.specs.Pair.{on_pair}

-- judging two records into words that hold 0
abbrev pub judged_pair : (bytes plan : List ℕ) → After (List ℕ)
judged_pair bytes plan = judge_call bytes plan (replicate words_max 0) sheet_cost

-- the sheet of the words that the judge filled in, with the task's first line; or the line of its refusal
abbrev pub pair_text : (bytes plan : List ℕ) → List ℕ
pair_text bytes plan =
    pick (eqb (judged_pair bytes plan).answer.refusal 0) (sheet_text (head_of (task_of bytes sheet_cost)) (judged_pair bytes plan).lent) (refused_line (refusal_of (judged_pair bytes plan).answer))

-- "It reads at most its first 8,192 bytes"
abbrev pub input_max : ℕ
input_max = 8_192

-- what is printed for an input
abbrev pub check_sheet : (input : List ℕ) → List ℕ
check_sheet input = on_pair refused_line pair_text (take input_max input)
