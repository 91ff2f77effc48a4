use Rattle.std.proofs.Common.{arith, rules}
use Rattle.std.proofs.lemmas.Grind.{elements}
use Rattle.ledger_model.proofs.batch.Tx.new.Goals as goal

pub returns-then-is_empty-clause-empty : goal.returns-then-is_empty-clause-empty
returns-then-is_empty-clause-empty c = search rules

pub returns-then-is_empty-clause-too_long : goal.returns-then-is_empty-clause-too_long
returns-then-is_empty-clause-too_long c = search rules

pub invariant_of-result : goal.invariant_of-result
invariant_of-result c = grind (arith, elements)

pub returns-clause-spelled : goal.returns-clause-spelled
returns-clause-spelled c = grind (arith, elements)
