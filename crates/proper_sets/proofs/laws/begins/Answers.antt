use Rattle.proper_sets.proofs.Absorbing as absorbing
use Rattle.proper_sets.proofs.laws.begins.Goals as goal

pub returns : goal.returns
returns c = absorbing.begins_with_own
