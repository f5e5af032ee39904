-- All promises, one by one.
use Rattle.claims.specs.Promises.{Promises}
use Rattle.claims.proofs.Record.{reading}
use Rattle.claims.proofs.Plan.{of-planning}
use Rattle.claims.proofs.Note.{of-noting}
use Rattle.claims.proofs.Admit.{of-admitting}
use Rattle.claims.proofs.Withdraw.{of-withdrawing}
use Rattle.claims.proofs.Ask.{of-asking, of-asking-to-end}
use Rattle.claims.proofs.Write.{of-writing}
use Rattle.claims.proofs.Mend.{of-mending}
use Rattle.claims.proofs.Graph.{of-graphs}
use Rattle.claims.proofs.Building.{of-buildings}
use Rattle.claims.proofs.PlanRecord.{of-plan-records}
use Rattle.claims.proofs.Judge.{of-judging}
use Rattle.claims.proofs.Print.{of-printing}
use Rattle.claims.proofs.Diagram.{tables-timed}
use Rattle.claims.proofs.Cost.{of-cost}
use Rattle.claims.proofs.Day.{day}
use Rattle.claims.proofs.Sales.{of-sales}
use Rattle.claims.proofs.Guarded.{of-guarding}
use Rattle.claims.proofs.Starred.{all_come}

-- they hold
pub promises : Promises
promises = record {
  reading = reading;
  planning = of-planning;
  noting = of-noting;
  admitting = of-admitting;
  withdrawing = of-withdrawing;
  asking = of-asking;
  asking-to-end = of-asking-to-end;
  writing = of-writing;
  mending = of-mending;
  graphing = of-graphs;
  building = of-buildings;
  plan-records = of-plan-records;
  judging = of-judging;
  printing = of-printing;
  tables-timed = tables-timed;
  cost = of-cost;
  day = day;
  sales = of-sales;
  guarding = of-guarding;
  starred = all_come;
}
