use Rattle.restart_laws.proofs.Kept.{runs_from_start}
use Rattle.restart_laws.proofs.laws.restarts_are_invisible.Goals as goal

pub returns : goal.returns
returns c = λ meaning config ring correct steps timeline runs. runs_from_start meaning config ring correct steps timeline runs
