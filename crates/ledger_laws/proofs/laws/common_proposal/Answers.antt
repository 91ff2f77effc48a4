use Rattle.ledger_laws.proofs.Proposals.{decided_common}
use Rattle.ledger_laws.proofs.laws.common_proposal.Goals as goal

pub returns : goal.returns
returns c = λ meaning config ring histories h r v w correct backed common is decided. decided_common meaning config ring histories correct h
    backed v
    common r is w decided
