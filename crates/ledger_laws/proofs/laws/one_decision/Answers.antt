use Rattle.ledger_laws.proofs.Agreement.{one_decision as one}
use Rattle.ledger_laws.proofs.laws.one_decision.Goals as goal

pub returns : goal.returns
returns c = λ meaning config ring histories h r q v w correct backed is also decided_r decided_q. one meaning config ring histories correct
    h backed r q is
    also v w decided_r decided_q
