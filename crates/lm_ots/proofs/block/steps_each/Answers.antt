use Rattle.std.proofs.Common.{[], slice_index_or, ap, ◌∙◌}
use Rattle.lm_ots.specs.Steps.{place_in, rest_of}
use Rattle.lm_ots.proofs.Chains.{rest-after, place-after}
use Rattle.lm_ots.proofs.block.steps_each.Goals as goal

pub returns-clause-rest : goal.returns-clause-rest
returns-clause-rest c k n low =
    ap (λ m. rest_of m n) (c.take_turns.ensures.turns k low)
    ∙ rest-after (slice_index_or c.args.messages.now k []) c.args.count n (c.take_turns.ensures.whole k low)

pub returns-clause-place : goal.returns-clause-place
returns-clause-place c k low =
    ap place_in (c.take_turns.ensures.turns k low)
    ∙ place-after (slice_index_or c.args.messages.now k []) c.args.count (c.take_turns.ensures.whole k low)
