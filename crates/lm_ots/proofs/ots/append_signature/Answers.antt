use Rattle.std.proofs.Common.{◌≡◌, ◌++◌, List, ℕ, take, ap, ◌∙◌}
use Rattle.std.proofs.lemmas.List.{append_assoc}
use Rattle.std.specs.Int.{w32, to_be_bytes}
use Rattle.std.specs.List.{flat_map}
use Rattle.lm_ots.specs.Parameters.{chains_of}
use Rattle.lm_ots.proofs.Leaves.{leaf_signature-is}
use Rattle.lm_ots.proofs.ots.append_signature.Goals as goal

pub returns-clause-items : goal.returns-clause-items
returns-clause-items c =
    let before = c.args.signature.now.items in
    let code = c.to_be_bytes.result in
    let randomizer = c.randomizer-randomizer.result in
    let ends = take c.from.result c.signed_ends-ends.result in
    let joined = flat_map (λ (part : List ℕ). part) ends in
    let all : c.from.result ≡ chains_of c.args.params.width = c.from.ensures ∙ c.chains.ensures in
    let front = c.append-2.ensures.items ∙ ap (λ zs. zs ++ randomizer) c.append.ensures.items ∙ append_assoc before code randomizer in
    c.append_each.ensures.items ∙ ap (λ zs. zs ++ joined) front ∙ append_assoc before (code ++ randomizer) joined
    ∙ ap (λ zs. before ++ zs) (leaf_signature-is c.args.params c.args.identifier.now c.args.seed.now c.args.message.now code randomizer
    c.message_digest-digest.result ends c.args.leaf
    (c.to_be_bytes.ensures ∙ ap (to_be_bytes w32) c.code.ensures) c.randomizer-randomizer.ensures c.message_digest-digest.ensures
    (ap (λ n. take n c.signed_ends-ends.result) all ∙ c.signed_ends-ends.ensures))
