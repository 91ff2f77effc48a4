use Rattle.ledger_laws.proofs.Refuted.{unproposed_batch_has_no_ledger, unproposed_batch_example}
use Rattle.ledger_laws.proofs.vacuity.unproposed_batch_has_no_ledger.Goals as goal

pub returns-clause-law : goal.returns-clause-law
returns-clause-law c = unproposed_batch_has_no_ledger

pub returns-clause-example : goal.returns-clause-example
returns-clause-example c = unproposed_batch_example
