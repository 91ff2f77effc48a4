use Rattle.std.proofs.Common.{arith}
use Rattle.std.proofs.lemmas.Grind.{elements}
use Rattle.ledger_model.proofs.batch.Tx.copy.Goals as goal

pub invariant_of-result : goal.invariant_of-result
invariant_of-result c = grind (arith, elements)

pub returns-clause-same : goal.returns-clause-same
returns-clause-same c = grind (arith, elements)

pub returns-clause-spelled : goal.returns-clause-spelled
returns-clause-spelled c = grind (arith, elements)
