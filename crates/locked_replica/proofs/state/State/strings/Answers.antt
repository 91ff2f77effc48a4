use Rattle.locked_replica.proofs.Strings.{same_strings}
use Rattle.locked_replica.proofs.state.State.strings.Goals as goal

pub returns-clause-same : goal.returns-clause-same
returns-clause-same g c = same_strings c.args.self.now.entries
