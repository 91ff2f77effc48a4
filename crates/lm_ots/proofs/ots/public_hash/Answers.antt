use Rattle.std.proofs.Common.{◌≡◌, take, ap, ◌∙◌}
use Rattle.ledger_model.specs.Signatures.{leaf_key, public_value}
use Rattle.lm_ots.specs.Parameters.{chains_of}
use Rattle.lm_ots.proofs.ots.public_hash.Goals as goal

pub returns : goal.returns
unfolding leaf_key
returns c =
    let all : c.from.result ≡ chains_of c.args.params.width = c.from.ensures ∙ c.chains.ensures in
    c.public_value.ensures ∙ ap (λ n. public_value c.args.identifier.now c.args.leaf (take n c.key_ends-ends.result)) all
    ∙ ap (public_value c.args.identifier.now c.args.leaf) c.key_ends-ends.ensures
