-- Document 01's "Tables worked by hand", those marked *, as one list under one claim. A further table is a further line.
use Rattle.std.specs.Prelude.{◌≡◌, List, [], ◌∷◌, ◌++◌, ℕ, zero, suc, length, drop, replicate}
use Rattle.refusals.specs.declared.Answer.{Answer}
use Rattle.refusals.specs.Refusal.{refusal, looped}
use Rattle.refusals.specs.Answer.{accepted, refused}
use Rattle.plain.specs.Pick.{pick}
use Rattle.tables.specs.declared.TaskTable.{TaskTable}
use Rattle.shares.specs.Heavy.{is_heavy}
use Rattle.plans.specs.Diagram.{work, path, segment_count, threads_in}
use Rattle.plans.specs.Words.{words_max}
use Rattle.plans.specs.Calls.{task_of, plan_call}
use Rattle.boards.specs.declared.Row.{Row}
use Rattle.boards.specs.Row.{row_at}
use Rattle.texts.specs.Text.{bytes as text}
use Rattle.sheets.specs.Printed.{sheet_of}
use Rattle.claims.specs.Calls.{Call, answer_to, board_after}
use Rattle.claims.specs.Calls.Call.{note, ask}

-- "A segment is heavy when .., otherwise light"
pub data Kind : Type 0 where
  heavy : Kind
  light : Kind

-- the kinds of a table's first s segments
unfoldable pub kinds_to : ℕ → TaskTable → List Kind
kinds_to zero t = []
kinds_to (suc j) t = kinds_to j t ++ (pick (is_heavy t.period (work t) (path t) (threads_in t j)) heavy light ∷ [])

-- what is done, and what must come out
pub data Entry : Type 0 where
  -- the record's plan is these words
  plans : (bytes words : List ℕ) → Entry
  -- its segments are of these kinds
  cuts : (bytes : List ℕ) (kinds : List Kind) → Entry
  -- its sheet is this text
  prints : (bytes text : List ℕ) → Entry
  -- planning refuses the record
  refuses : (bytes : List ℕ) (number place : ℕ) → Entry
  -- planning refuses the record by 10, with this node and this set of nodes
  goes-round : (bytes : List ℕ) (node ring : ℕ) → Entry
  -- noted on the empty board, the record's task has this row
  fills : (bytes : List ℕ) (row : Row) → Entry
  -- after these calls, asking for so many cores gets this answer
  answers : (calls : List Call) (cores : ℕ) (answer : Answer) → Entry

-- document 01's tables have no cost
abbrev pub no_cost : ℕ
no_cost = 0

-- the words that are lent: as many as the largest plan has, all 0
abbrev pub blank : List ℕ
blank = replicate words_max 0

-- a record is noted
abbrev pub noting : List ℕ → Call
noting bytes = note bytes blank no_cost

-- it comes out so: a plan's answer is the number of its words, and the words past them are as they were; a refusal writes nothing
abbrev pub Comes : Entry → Type 0
Comes (plans bytes words) = plan_call bytes blank no_cost ≡ record { answer = accepted (length words); lent = words ++ drop (length words) blank }
Comes (cuts bytes kinds) = kinds_to (segment_count (task_of bytes no_cost)) (task_of bytes no_cost) ≡ kinds
Comes (prints bytes text) = sheet_of bytes ≡ text
Comes (refuses bytes number place) = plan_call bytes blank no_cost ≡ record { answer = refused (refusal number place); lent = blank }
Comes (goes-round bytes node ring) = plan_call bytes blank no_cost ≡ record { answer = refused (looped node ring); lent = blank }
Comes (fills bytes row) = row_at (board_after (noting bytes ∷ [])) 0 ≡ row
Comes (answers calls cores answer) = answer_to (ask cores) (board_after calls) ≡ answer

-- one node of 5 in a period of 5: light
abbrev pub one_node : List ℕ
one_node = 0x01 ∷ 0x07 ∷ 0x05 ∷ 0x01 ∷ 0x05 ∷ 0x00 ∷ []

-- the same with period 4
abbrev pub short_period : List ℕ
short_period = 0x01 ∷ 0x07 ∷ 0x04 ∷ 0x01 ∷ 0x05 ∷ 0x00 ∷ []

-- a chain of three, executions 1, period 3
abbrev pub chain : List ℕ
chain = 0x01 ∷ 0x08 ∷ 0x03 ∷ 0x03 ∷ 0x01 ∷ 0x00 ∷ 0x01 ∷ 0x01 ∷ 0x00 ∷ 0x01 ∷ 0x01 ∷ 0x01 ∷ []

-- one light, one heavy segment
abbrev pub four_nodes : List ℕ
four_nodes = 0x01 ∷ 0x09 ∷ 0x04 ∷ 0x04 ∷ 0x02 ∷ 0x00 ∷ 0x01 ∷ 0x01 ∷ 0x00 ∷ 0x01 ∷ 0x01 ∷ 0x00 ∷ 0x01 ∷ 0x01 ∷ 0x00 ∷ []

-- the record of the listing
abbrev pub listing : List ℕ
listing = 0x01 ∷ 0x03 ∷ 0x06 ∷ 0x03 ∷ 0x03 ∷ 0x00 ∷ 0x01 ∷ 0x00 ∷ 0x01 ∷ 0x01 ∷ 0x01 ∷ []

-- "For the record 01 03 06 03 03 00 01 00 01 01 01:"
abbrev pub listing_text : List ℕ
listing_text =
    text "task 3 period 6 work 5 path 3 over 5\n"
    ++ text "seg 0 threads 2 length 1 deadline 12\n"
    ++ text "seg 1 threads 2 length 1 deadline 12\n"
    ++ text "seg 2 threads 1 length 1 deadline 6\n"
    ++ text "node 0 offset 0 deadline 30 density 500000\n"
    ++ text "node 1 offset 0 deadline 12 density 416667\n"
    ++ text "node 2 offset 12 deadline 12 density 416667\n"
    ++ text "sum 1333334 max 500000\n"

-- a node that is its own parent
abbrev pub own_parent : List ℕ
own_parent = 0x01 ∷ 0x05 ∷ 0x09 ∷ 0x01 ∷ 0x01 ∷ 0x01 ∷ 0x00 ∷ []

-- two nodes that are each other's
abbrev pub each_other : List ℕ
each_other = 0x01 ∷ 0x06 ∷ 0x09 ∷ 0x02 ∷ 0x01 ∷ 0x01 ∷ 0x01 ∷ 0x01 ∷ 0x01 ∷ 0x00 ∷ []

-- the starred tables, in document 01's order; 80 00 with the number that request a gives it, loops with their nodes as request m has them, rows with
-- the figures of request f
unfoldable pub starred : List Entry
starred =
    plans one_node (5 ∷ 1 ∷ 1 ∷ 1 ∷ 5 ∷ 25 ∷ 0 ∷ 25 ∷ 1000000 ∷ [])
    ∷ cuts one_node (light ∷ [])
    ∷ fills one_node (record { id = 7; nodes = 1; sum = 1000000; largest = 1000000; longest = 5; shortest = 25; over = 5 })
    ∷ answers (noting one_node ∷ []) 1 (accepted 1)
    ∷ refuses short_period 11 0
    ∷ plans chain (3 ∷ 3 ∷ 3 ∷ 1 ∷ 1 ∷ 3 ∷ 1 ∷ 1 ∷ 3 ∷ 1 ∷ 1 ∷ 3 ∷ 0 ∷ 3 ∷ 1000000 ∷ 3 ∷ 3 ∷ 1000000 ∷ 6 ∷ 3 ∷ 1000000 ∷ [])
    ∷ cuts chain (light ∷ light ∷ light ∷ [])
    ∷ fills chain (record { id = 8; nodes = 3; sum = 3000000; largest = 1000000; longest = 1; shortest = 3; over = 3 })
    ∷ answers (noting chain ∷ []) 1 (accepted 0)
    ∷ answers (noting chain ∷ []) 3 (accepted 0)
    ∷ plans four_nodes (6 ∷ 2 ∷ 4 ∷ 1 ∷ 2 ∷ 6 ∷ 3 ∷ 1 ∷ 18 ∷ 0 ∷ 6 ∷ 2000000 ∷ 6 ∷ 18 ∷ 333334 ∷ 6 ∷ 18 ∷ 333334 ∷ 6 ∷ 18 ∷ 333334 ∷ [])
    ∷ cuts four_nodes (light ∷ heavy ∷ [])
    ∷ plans listing (5 ∷ 3 ∷ 3 ∷ 2 ∷ 1 ∷ 12 ∷ 2 ∷ 1 ∷ 12 ∷ 1 ∷ 1 ∷ 6 ∷ 0 ∷ 30 ∷ 500000 ∷ 0 ∷ 12 ∷ 416667 ∷ 12 ∷ 12 ∷ 416667 ∷ [])
    ∷ prints listing listing_text
    ∷ fills listing (record { id = 3; nodes = 3; sum = 1333334; largest = 500000; longest = 3; shortest = 12; over = 5 })
    ∷ answers (noting listing ∷ []) 2 (accepted 1)
    ∷ answers (noting listing ∷ []) 1 (accepted 0)
    ∷ goes-round own_parent 0 0b1
    ∷ goes-round each_other 0 0b11
    ∷ refuses [] 1 0
    ∷ refuses (0x80 ∷ 0x00 ∷ []) 18 0
    ∷ refuses (0x01 ∷ 0x07 ∷ 0x80 ∷ 0x80 ∷ 0x80 ∷ 0x08 ∷ []) 5 2
    ∷ answers [] 1 (accepted 1)
    ∷ answers [] 64 (accepted 1)
    ∷ answers [] 0 (refused (refusal 15 0))
    ∷ answers [] 65 (refused (refusal 15 0))
    ∷ []

infixr 40 ◌also◌
-- every entry of a list comes out as it says
pub data AllCome : List Entry → Type 0 where
  done : AllCome []
  ◌also◌ : {e : Entry} {es : List Entry} → Comes e → AllCome es → AllCome (e ∷ es)

-- every starred table comes out as document 01 says
abbrev pub Starred : Type 0
Starred = AllCome starred
