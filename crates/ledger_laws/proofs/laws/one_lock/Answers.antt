use Rattle.ledger_laws.proofs.Agreement.{same_lock}
use Rattle.ledger_laws.proofs.laws.one_lock.Goals as goal

pub returns : goal.returns
returns c = λ meaning config ring histories h r c d l m correct is has_l has_m phase. same_lock meaning config ring histories correct h r is
    c d l m has_l
    has_m phase
