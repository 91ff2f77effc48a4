use Rattle.std.proofs.Common.{◌≡◌, ◌+◌, [], slice_index_or, ap, ◌∙◌, arith}
use Rattle.ledger_model.specs.Signatures.{chain, chain_start}
use Rattle.lm_ots.specs.Steps.{rest_of}
use Rattle.lm_ots.proofs.Chains.{rest-begun, rest-none}
use Rattle.lm_ots.proofs.leaf_row.row_ends.Goals as goal

pub returns : goal.returns
returns c k low =
    let id = c.args.identifier.now in
    let seed = c.args.seed.now in
    let q = c.args.first + k in
    let i = c.args.index in
    let count : c.from.result + 1 + 0 ≡ c.from.result + 1 = omega arith in
    c.values_in.ensures k low
    ∙ rest-none (slice_index_or c.steps_each.new.messages k [])
    ∙ c.steps_each.ensures.rest k 0 low
    ∙ ap (rest_of (slice_index_or c.seed_messages-messages.result k [])) count
    ∙ ap (λ m. rest_of m (c.from.result + 1)) (c.seed_messages-messages.ensures.messages k low)
    ∙ rest-begun id seed q i c.from.result c.seed_messages-messages.ensures.named (omega arith)
    ∙ ap (λ n. chain id q i 0 n (chain_start id seed q i)) (c.from.ensures ∙ c.last_step.ensures)
