use Rattle.ledger_laws.proofs.Computed.{digits_and_checksums}
use Rattle.ledger_laws.proofs.examples.digits_and_checksums.Goals as goal

pub returns : goal.returns
returns c = digits_and_checksums
