use Rattle.std.proofs.Common.{rules}
use Rattle.cluster_service.proofs.asking.block.Goals as goal

pub returns-in-Ok-clause-outcome : goal.returns-in-Ok-clause-outcome
returns-in-Ok-clause-outcome g c = record { state = c.args.state.now; replay = c.len.ensures.sound.replay; answered = search rules }
