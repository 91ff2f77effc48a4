use Rattle.ledger_laws.proofs.WorldRuns.{runs_refine as refine}
use Rattle.ledger_laws.proofs.laws.runs_refine.Goals as goal

pub returns : goal.returns
returns c = λ meaning config ring correct steps answers w replicas runs unforged. refine meaning config ring correct steps answers w
    replicas runs unforged
