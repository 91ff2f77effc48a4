use Rattle.std.proofs.Common.{◌≡◌, ◌+◌, ◌∙◌, arith}
use Rattle.lm_ots.specs.Ends.{chain_prefix}
use Rattle.lm_ots.specs.Steps.{walk}
use Rattle.lm_ots.proofs.EndLemmas.{end_of-set, end_of-others}
use Rattle.lm_ots.proofs.Chains.{walk-begun}
use Rattle.lm_ots.proofs.leaf_chains.Chains.begin.Goals as goal

pub returns-clause-end : goal.returns-clause-end
returns-clause-end c =
    let left : c.from.result + 1 ≡ c.args.steps + 1 = omega arith in
    let many = c.set.ensures.many in
    end_of-set c.args.self.now c.set.new.self c.args.index 255 (c.from.result + 1) c.as_bytes.result.now c.set.ensures.set
    (omega (arith, many.0)) (omega (arith, many.1)) (omega (arith, many.2))
    ∙ (λ i. walk (chain_prefix c.args.self.now c.args.index) 255 (left i) (c.as_bytes.ensures.bytes i))
    ∙ walk-begun c.args.self.now.identifier c.args.seed.now c.args.self.now.leaf c.args.index c.args.steps (omega arith)

pub returns-clause-others : goal.returns-clause-others
returns-clause-others c = end_of-others c.args.self.now c.set.new.self c.args.index _ _ _ c.set.ensures.set
