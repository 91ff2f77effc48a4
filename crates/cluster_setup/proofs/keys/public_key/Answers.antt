use Rattle.cluster_setup.proofs.keys.public_key.Goals as goal

pub returns : goal.returns
returns c = rw c.in_ok-pair.ensures at c.public-2.ensures
