-- All that we promise, in one record: a reader who trusts nothing else reads this crate's specs/ and the definitions that they name.
use Rattle.claims.specs.Record.{OfReading}
use Rattle.claims.specs.Plan.{OfPlanning}
use Rattle.claims.specs.Note.{OfNoting}
use Rattle.claims.specs.Admit.{OfAdmitting}
use Rattle.claims.specs.Withdraw.{OfWithdrawing}
use Rattle.claims.specs.Ask.{OfAsking}
use Rattle.claims.specs.ToEnd.{OfAskingToEnd}
use Rattle.claims.specs.Write.{OfWriting}
use Rattle.claims.specs.Mend.{OfMending}
use Rattle.claims.specs.Graph.{OfGraphs}
use Rattle.claims.specs.Building.{OfBuildings}
use Rattle.claims.specs.PlanRecord.{OfPlanRecords}
use Rattle.claims.specs.Judge.{OfJudging}
use Rattle.claims.specs.Print.{OfPrinting}
use Rattle.claims.specs.Diagram.{TablesTimed}
use Rattle.claims.specs.Cost.{OfCost}
use Rattle.claims.specs.Day.{Day}
use Rattle.claims.specs.Sales.{OfSales}
use Rattle.claims.specs.Guarded.{OfGuarding}
use Rattle.claims.specs.Starred.{Starred}

-- the promises
pub record Promises : Type 0 where
  -- demands 1 and 2, call by call, and what demand 3 says of every accepted plan
  pub reading : OfReading
  pub planning : OfPlanning
  pub noting : OfNoting
  pub admitting : OfAdmitting
  pub withdrawing : OfWithdrawing
  pub asking : OfAsking
  pub asking-to-end : OfAskingToEnd
  pub writing : OfWriting
  pub mending : OfMending
  pub graphing : OfGraphs
  pub building : OfBuildings
  pub plan-records : OfPlanRecords
  pub judging : OfJudging
  pub printing : OfPrinting
  -- every loop-free table's starts, cuts and offsets are those of document 01
  pub tables-timed : TablesTimed
  -- what a cost does, and that a cost of 0 does nothing
  pub cost : OfCost
  -- demand 3: the board after any list of calls
  pub day : Day
  -- what the sales sheet says of the verdicts
  pub sales : OfSales
  -- where tasks are admitted for one number of cores alone, the verdict stays a yes
  pub guarding : OfGuarding
  -- the starred tables
  pub starred : Starred
