-- The limits of a task record, of what planning meets and of a density, each named once.
use Rattle.std.specs.Prelude.{ℕ, ◌+◌, ◌*◌, eqb}
use Rattle.plain.specs.Pick.{pick}

-- the last edition: 3 refuses what is "neither 1 nor 2"
abbrev pub edition_max : ℕ
edition_max = 2

-- "task id (1..65,535)"
abbrev pub id_max : ℕ
id_max = 65535

-- "period (1..16,777,215)"
abbrev pub period_max : ℕ
period_max = 16777215

-- "node count n (1..64)"
abbrev pub count_max : ℕ
count_max = 64

-- "its execution (1..65,535)"
abbrev pub execution_max : ℕ
execution_max = 65535

-- "Edition 2 lets an execution be 0; edition 1 keeps its rule": the least execution
abbrev pub least_execution : (edition : ℕ) → ℕ
least_execution edition = pick (eqb edition 1) 1 0

-- "a cost of 0..255 units"
abbrev pub cost_max : ℕ
cost_max = 255

-- the greatest execution that planning meets, 65,790: "written plus cost"
abbrev pub run_max : ℕ
run_max = execution_max + cost_max

-- the greatest work C, 4,210,560: every node at its greatest execution
abbrev pub work_max : ℕ
work_max = count_max * run_max

-- the greatest Q, 8,421,120: twice the greatest work of the heavy segments
abbrev pub over_max : ℕ
over_max = 2 * work_max

-- "It is kept in millionths"
abbrev pub million : ℕ
million = 1000000

-- the greatest density: no deadline is under half its step's running time
abbrev pub density_max : ℕ
density_max = 2 * million
