use Rattle.phase_core.proofs.Logs as logs
use Rattle.phase_core.proofs.laws.found_is_supported.Goals as goal

pub returns : goal.returns
returns c = logs.found_is_supported
