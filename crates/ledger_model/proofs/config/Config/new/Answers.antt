use Rattle.std.proofs.Common.{rules}
use Rattle.ledger_model.proofs.config.Config.new.Goals as goal

pub returns-then-faults-eq0-clause-too_few : goal.returns-then-faults-eq0-clause-too_few
returns-then-faults-eq0-clause-too_few c = search rules

pub returns-then-faults-eq0-clause-no_fault : goal.returns-then-faults-eq0-clause-no_fault
returns-then-faults-eq0-clause-no_fault c = search rules

pub invariant_of-result : goal.invariant_of-result
invariant_of-result c = search rules
