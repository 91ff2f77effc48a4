use Rattle.std.proofs.Common.{ap, ◌∙◌, arith, rules}
use Rattle.ledger_model.specs.Signatures.{digit, sum_up}
use Rattle.lm_ots.specs.Parameters.{numbers_of}
use Rattle.lm_ots.proofs.Coefs.{digits-sum}
use Rattle.lm_ots.proofs.ots.signed_steps.Goals as goal

pub returns : goal.returns
returns c =
    let p = numbers_of c.args.params in
    c.loop-index.invariant.total
    ∙ digits-sum c.args.params c.of-digits.result.params c.message_digest-signed.result c.of-digits.result.bytes c.loop-index.index
    c.of-digits.ensures.params c.of-digits.ensures.bytes
    ∙ ap (sum_up (digit p c.message_digest-signed.result)) (omega arith)
    ∙ ap (λ s. sum_up (digit p s) p.chains) c.message_digest-signed.ensures

pub loop-index-preserved : goal.loop-index-preserved
loop-index-preserved c = search rules
