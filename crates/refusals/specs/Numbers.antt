-- The refusal numbers of document 01's table "Refusal numbers and their order", and those that requests added, each by a name.
use Rattle.std.specs.Prelude.{ℕ}
use Rattle.refusals.specs.declared.Reason.{Reason}
use Rattle.refusals.specs.declared.Reason.TheVariants.{Ended, TooLong, BadEdition, BadId, BadPeriod, BadCount, BadExecution, BadParent, BytesFollow, Loop, LongPath, IdStands, BoardFull, NotStanding, BadCores, FewWords, UnsoundBoard, NotShortest, WrongLength, VerdictNo, NoneRuns, BadLayout, ManyTasks, BadPlan, BrokenRule, HighCost, LongFile, BigWord}

-- the input ends before a needed byte
abbrev pub ended : ℕ
ended = 1

-- a fourth byte has its top bit set
abbrev pub too_long : ℕ
too_long = 2

-- edition is neither 1 nor 2
abbrev pub bad_edition : ℕ
bad_edition = 3

-- task id outside its range
abbrev pub bad_id : ℕ
bad_id = 4

-- period outside its range
abbrev pub bad_period : ℕ
bad_period = 5

-- node count outside its range
abbrev pub bad_count : ℕ
bad_count = 6

-- execution outside its range
abbrev pub bad_execution : ℕ
bad_execution = 7

-- parent count above n, parent number n or more, or not above the one before
abbrev pub bad_parent : ℕ
bad_parent = 8

-- bytes follow the record
abbrev pub bytes_follow : ℕ
bytes_follow = 9

-- some node is reached from itself by one or more parent edges
abbrev pub loop : ℕ
loop = 10

-- the path is longer than the period
abbrev pub long_path : ℕ
long_path = 11

-- the id stands on the board already
abbrev pub id_stands : ℕ
id_stands = 12

-- all 16 rows are taken
abbrev pub board_full : ℕ
board_full = 13

-- the id to withdraw isn't standing (0 never stands)
abbrev pub not_standing : ℕ
not_standing = 14

-- core count is 0 or above 64
abbrev pub bad_cores : ℕ
bad_cores = 15

-- the lent plan has fewer than 387 words
abbrev pub few_words : ℕ
few_words = 16

-- the lent board isn't sound
abbrev pub unsound_board : ℕ
unsound_board = 17

-- the form isn't the shortest
abbrev pub not_shortest : ℕ
not_shortest = 18

-- the lists differ in length; or the lent buffer is too short
abbrev pub wrong_length : ℕ
wrong_length = 19

-- the verdict would be no
abbrev pub verdict_no : ℕ
verdict_no = 20

-- all executions are 0
abbrev pub none_runs : ℕ
none_runs = 21

-- the text breaks the layout
abbrev pub bad_layout : ℕ
bad_layout = 22

-- a count above 62
abbrev pub many_tasks : ℕ
many_tasks = 23

-- a list's count is outside 1..64; or id or node count isn't the task's
abbrev pub bad_plan : ℕ
bad_plan = 24

-- a rule is broken
abbrev pub broken_rule : ℕ
broken_rule = 25

-- cost above 255
abbrev pub high_cost : ℕ
high_cost = 26

-- a file of more than 1,048,576 bytes
abbrev pub long_file : ℕ
long_file = 27

-- an id or written word of 2^63 or more
abbrev pub big_word : ℕ
big_word = 28

-- each reason has its number of the table
abbrev pub number_of : Reason → ℕ
number_of Ended = ended
number_of TooLong = too_long
number_of BadEdition = bad_edition
number_of BadId = bad_id
number_of BadPeriod = bad_period
number_of BadCount = bad_count
number_of BadExecution = bad_execution
number_of BadParent = bad_parent
number_of BytesFollow = bytes_follow
number_of Loop = loop
number_of LongPath = long_path
number_of IdStands = id_stands
number_of BoardFull = board_full
number_of NotStanding = not_standing
number_of BadCores = bad_cores
number_of FewWords = few_words
number_of UnsoundBoard = unsound_board
number_of NotShortest = not_shortest
number_of WrongLength = wrong_length
number_of VerdictNo = verdict_no
number_of NoneRuns = none_runs
number_of BadLayout = bad_layout
number_of ManyTasks = many_tasks
number_of BadPlan = bad_plan
number_of BrokenRule = broken_rule
number_of HighCost = high_cost
number_of LongFile = long_file
number_of BigWord = big_word
