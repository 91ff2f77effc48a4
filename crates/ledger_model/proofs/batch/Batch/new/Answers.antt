use Rattle.std.proofs.Common.{rules}
use Rattle.ledger_model.proofs.batch.Batch.new.Goals as goal

pub invariant_of-result : goal.invariant_of-result
invariant_of-result c = search rules

pub returns-clause-spelled : goal.returns-clause-spelled
returns-clause-spelled c = search rules

pub returns-clause-too_many : goal.returns-clause-too_many
returns-clause-too_many c = search rules
