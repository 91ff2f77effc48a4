use Rattle.ledger_laws.proofs.Audits.{audited_histories_have_ledger as audited}
use Rattle.ledger_laws.proofs.laws.audited_histories_have_ledger.Goals as goal

pub returns : goal.returns
returns c = λ meaning config ring histories count replay sent. audited meaning config ring histories count replay sent
