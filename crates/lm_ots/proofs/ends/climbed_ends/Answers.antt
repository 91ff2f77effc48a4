use Rattle.std.proofs.Common.{◌≡◌, ◌-◌, ◌^◌, ap, ◌∙◌, arith}
use Rattle.ledger_model.specs.Signatures.{chain, digit, last_step, part}
use Rattle.lm_ots.specs.declared.params.Params.{Params}
use Rattle.lm_ots.specs.Parameters.{bits_of, chains_of, numbers_of}
use Rattle.lm_ots.proofs.Leaves.{listed, digit-is}
use Rattle.lm_ots.proofs.Coefs.{coef-last, chains-most}
use Rattle.lm_ots.proofs.ends.climbed_ends.Goals as goal

pub resume-requires-clause-forward : goal.resume-requires-clause-forward
resume-requires-clause-forward c =
    let p = c.of-digits.result.params in
    let same = ap (λ (u : Params). 2 ^ bits_of u.width - 1) c.of-digits.ensures.params in
    omega (arith, coef-last p.width c.of-digits.result.bytes c.loop-index.index, same, c.at.ensures, c.last_step-last_step.ensures)

pub returns : goal.returns
returns c =
    let p = numbers_of c.args.params in
    let id = c.args.identifier.now in
    let q = c.args.leaf in
    let all : c.loop-index.index ≡ chains_of c.args.params.width = omega arith in
    let last = c.last_step-last_step in
    listed c.ends.result (λ i. chain id q i (digit p c.args.digest.now i) (last_step p - digit p c.args.digest.now i)
    (part c.args.values.now 0 i)) p.chains (omega (arith, chains-most c.args.params.width, c.ends.ensures.many)) (λ i below.
    c.ends.ensures.ends i (omega (arith, chains-most c.args.params.width)) ∙ c.loop-index.invariant.ends i (omega arith)
    ∙ ap (λ d. chain id q i d (last.result - d) (part c.args.values.now 0 i))
    (digit-is c.args.params c.args.digest.now c.of-digits.result.bytes c.of-digits.result.params c.of-digits.ensures.params
    c.of-digits.ensures.bytes i)
    ∙ ap (λ n. chain id q i (digit p c.args.digest.now i) (n - digit p c.args.digest.now i) (part c.args.values.now 0 i)) last.ensures)
