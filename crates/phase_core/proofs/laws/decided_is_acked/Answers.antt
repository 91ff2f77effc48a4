use Rattle.phase_core.proofs.Logs as logs
use Rattle.phase_core.proofs.laws.decided_is_acked.Goals as goal

pub returns : goal.returns
returns c = logs.decided_is_acked
