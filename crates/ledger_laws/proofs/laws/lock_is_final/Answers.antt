use Rattle.ledger_laws.proofs.Agreement.{lock_is_final as final}
use Rattle.ledger_laws.proofs.laws.lock_is_final.Goals as goal

pub returns : goal.returns
returns c = λ meaning config ring histories h k v l correct backed some owner taken valid of_height later. final meaning config ring
    histories correct h
    backed k v some owner taken l of_height valid later
