use Rattle.std.proofs.Common.{rules}
use Rattle.std.specs.Prelude.{◌&&◌, ◌==◌}
use Rattle.std.proofs.lemmas.Fn.{always_returns_same}
use Rattle.ledger_model.specs.Values.{same_value}
use Rattle.phase_core.specs.Choices.{is_decided_by}
use Rattle.phase_core.proofs.decision.is_acknowledged.Goals as goal

pub returns : goal.returns
unfolding is_decided_by
returns c =
    let count = c.count_where-count.ensures.counted (λ a. (a.phase == c.args.phase) && same_value c.args.value.now a.value)
    (always_returns_same _ _ _ (λ a r f' k. search rules)) in
    search rules
