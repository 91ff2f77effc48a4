use Rattle.std.proofs.Common.{◌≡◌, refl, take, ap, ◌∙◌, rules}
use Rattle.std.proofs.lemmas.List.{take_rest}
use Rattle.ledger_model.specs.Signatures.{public_value}
use Rattle.lm_ots.specs.Parameters.{chains_of}
use Rattle.lm_ots.proofs.Leaves.{leaf_candidate-is}
use Rattle.lm_ots.proofs.ots.candidate.Goals as goal

pub returns-clause-value : goal.returns-clause-value
returns-clause-value c =
    let all : c.from.result ≡ chains_of c.args.params.width = c.from.ensures ∙ c.chains.ensures in
    leaf_candidate-is c.args.params c.args.identifier.now c.args.message.now c.args.signature.now _ _ c.message_digest-digest.result _
    c.args.leaf
    refl (take_rest c.args.signature.now 36) c.message_digest-digest.ensures
    (c.public_value.ensures ∙ ap (λ n. public_value c.args.identifier.now c.args.leaf (take n c.climbed_ends-ends.result)) all
    ∙ ap (public_value c.args.identifier.now c.args.leaf) c.climbed_ends-ends.ensures)

pub returns-clause-fits : goal.returns-clause-fits
returns-clause-fits c = search rules
