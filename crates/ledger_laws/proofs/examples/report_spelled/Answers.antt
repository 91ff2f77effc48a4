use Rattle.ledger_laws.proofs.Computed.{report_spelled}
use Rattle.ledger_laws.proofs.examples.report_spelled.Goals as goal

pub returns : goal.returns
returns c = report_spelled
