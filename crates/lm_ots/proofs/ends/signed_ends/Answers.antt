use Rattle.std.proofs.Common.{◌≡◌, ap, ◌∙◌, arith}
use Rattle.ledger_model.specs.Signatures.{chain, chain_start, digit}
use Rattle.lm_ots.specs.Parameters.{chains_of, numbers_of}
use Rattle.lm_ots.proofs.Leaves.{listed, digit-is}
use Rattle.lm_ots.proofs.Coefs.{chains-most}
use Rattle.lm_ots.proofs.ends.signed_ends.Goals as goal

pub returns : goal.returns
returns c =
    let p = numbers_of c.args.params in
    let id = c.args.identifier.now in
    let q = c.args.leaf in
    let all : c.loop-index.index ≡ chains_of c.args.params.width = omega arith in
    listed c.ends.result (λ i. chain id q i 0 (digit p c.args.digest.now i) (chain_start id c.args.seed.now q i)) p.chains
    (omega (arith, chains-most c.args.params.width, c.ends.ensures.many)) (λ i below.
    c.ends.ensures.ends i (omega (arith, chains-most c.args.params.width)) ∙ c.loop-index.invariant.ends i (omega arith)
    ∙ ap (λ d. chain id q i 0 d (chain_start id c.args.seed.now q i))
    (digit-is c.args.params c.args.digest.now c.of-digits.result.bytes c.of-digits.result.params c.of-digits.ensures.params
    c.of-digits.ensures.bytes i))
