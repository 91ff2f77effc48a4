-- the keys of the signers so far
use Rattle.std.proofs.Common.{◌≡◌, map, take}
use Rattle.key_ring.specs.Signers.{SignerView, public_key_of}
use Rattle.cluster_setup.proofs.all.ring_of_signers.Given as goal

abbrev pub invariant-loop-signer : goal.invariant-loop-signer
invariant-loop-signer l = l.keys.items ≡ map (λ (keys : SignerView). public_key_of keys.secret) (take l.signer-index l.signers)
