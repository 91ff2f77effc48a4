use Rattle.std.proofs.Common.{[], slice_index_or, ap, ◌∙◌}
use Rattle.lm_ots.proofs.EndLemmas.{end_of-reached}
use Rattle.lm_ots.proofs.leaf_chains.Chains.ends.Goals as goal

pub returns-clause-ends : goal.returns-clause-ends
returns-clause-ends c i below =
    ap (λ zs. slice_index_or zs i []) c.values.ensures.values ∙ end_of-reached c.finish.new.self i (c.finish.ensures.none_left i below)
    ∙ c.finish.ensures.ends i below ∙ c.walk.ensures i below
