use Rattle.proper_sets.proofs.Absorbing as absorbing
use Rattle.proper_sets.proofs.laws.absorbs_a_phase.Goals as goal

pub returns : goal.returns
returns c = absorbing.absorbs_a_phase
