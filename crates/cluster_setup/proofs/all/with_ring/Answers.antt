use Rattle.std.proofs.Common.{map, ap, ◌∙◌}
use Rattle.std.specs.List.{range_with_len}
use Rattle.key_ring.specs.Signers.{SignerView, public_key_of}
use Rattle.cluster_setup.specs.Keys.{secret_of}
use Rattle.cluster_setup.proofs.RingLemmas.{keys_of_unused}
use Rattle.cluster_setup.proofs.all.with_ring.Goals as goal

pub returns-clause-ring : goal.returns-clause-ring
returns-clause-ring c =
    c.in_ok-ring.ensures ∙ ap (map (λ (keys : SignerView). public_key_of keys.secret)) (c.deref.ensures.value ∙ c.requires)
    ∙ keys_of_unused (secret_of c.args.cluster.now) (range_with_len 0 c.args.cluster.now.config.replicas)
