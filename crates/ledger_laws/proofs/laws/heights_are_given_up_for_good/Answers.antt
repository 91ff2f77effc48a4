use Rattle.ledger_laws.proofs.Floors.{floor_rises, floor_is_the_least, floor_is_committed, closed_for_good}
use Rattle.ledger_laws.proofs.laws.heights_are_given_up_for_good.Goals as goal

pub returns-clause-rises : goal.returns-clause-rises
returns-clause-rises c = floor_rises

pub returns-clause-least : goal.returns-clause-least
returns-clause-least c = floor_is_the_least

pub returns-clause-committed : goal.returns-clause-committed
returns-clause-committed c = floor_is_committed

pub returns-clause-closed : goal.returns-clause-closed
returns-clause-closed c = closed_for_good
