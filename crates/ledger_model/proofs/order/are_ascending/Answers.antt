use Rattle.std.proofs.Common.{rules}
use Rattle.std.proofs.lemmas.List.Sorted.{answers_always}
use Rattle.ledger_model.specs.Values.{is_below}
use Rattle.ledger_model.proofs.Ascending.{ascending_answer}
use Rattle.ledger_model.proofs.order.are_ascending.Goals as goal

pub returns : goal.returns
returns c =
    ascending_answer c.args.values.now c.is_sorted_by.result
    (c.is_sorted_by.ensures.cases is_below (answers_always _ _ _ (λ f a r g called. search rules)))
