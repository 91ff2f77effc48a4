use Rattle.std.proofs.Common.{◌≡◌, ◌-◌, ◌∙◌, ap, arith}
use Rattle.lm_ots.specs.Ends.{chain_prefix}
use Rattle.lm_ots.specs.Steps.{walk}
use Rattle.lm_ots.proofs.EndLemmas.{end_of-set, end_of-others}
use Rattle.lm_ots.proofs.Chains.{walk-chain}
use Rattle.lm_ots.proofs.leaf_chains.Chains.resume.Goals as goal

pub returns-clause-end : goal.returns-clause-end
returns-clause-end c =
    let left : c.from.result ≡ c.args.to - c.args.from = c.from.ensures in
    let many = c.set.ensures.many in
    end_of-set c.args.self.now c.set.new.self c.args.index c.args.from c.from.result c.args.value.now c.set.ensures.set
    (omega (arith, many.0)) (omega (arith, many.1)) (omega (arith, many.2))
    ∙ ap (λ n. walk (chain_prefix c.args.self.now c.args.index) c.args.from n c.args.value.now) left
    ∙ walk-chain c.args.self.now.identifier c.args.self.now.leaf c.args.index c.args.from (c.args.to - c.args.from) c.args.value.now
    (omega arith)

pub returns-clause-others : goal.returns-clause-others
returns-clause-others c = end_of-others c.args.self.now c.set.new.self c.args.index _ _ _ c.set.ensures.set
