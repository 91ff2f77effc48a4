use Rattle.ledger_model.specs.Kinds.{counter}
use Rattle.std.proofs.Common.{rules}
use Rattle.app_kinds.proofs.count.test_delivery.Goals as goal

pub returns-clause-passes : goal.returns-clause-passes
unfolding counter
returns-clause-passes c = search rules
