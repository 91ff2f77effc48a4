use Rattle.ledger_laws.proofs.Backing.{refines}
use Rattle.ledger_laws.proofs.laws.every_run_refines.Goals as goal

pub returns : goal.returns
returns c = λ meaning config ring correct timeline replicas runs unforged. refines meaning config ring correct replicas timeline runs
    unforged
