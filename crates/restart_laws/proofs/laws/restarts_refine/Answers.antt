use Rattle.ledger_laws.proofs.Backing.{refines}
use Rattle.restart_laws.proofs.Kept.{runs_from_start}
use Rattle.restart_laws.proofs.Logged.{unforged_from_start}
use Rattle.restart_laws.proofs.laws.restarts_refine.Goals as goal

pub returns : goal.returns
returns c = λ meaning config ring correct steps timeline replicas runs logged.
    refines meaning config ring correct replicas timeline (runs_from_start meaning config ring correct steps timeline runs)
    (unforged_from_start config ring correct meaning steps timeline runs logged)
