use Rattle.key_ring.proofs.Leaves as leaves
use Rattle.key_ring.proofs.laws.no_leaf_twice.Goals as goal

pub returns : goal.returns
returns c = leaves.no_leaf_twice
