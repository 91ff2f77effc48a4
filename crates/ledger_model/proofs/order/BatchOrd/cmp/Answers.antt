use Rattle.std.proofs.Common.{◌≡◌, length, sym, ◌∙◌, rules}
use Rattle.std.specs.Ordering.{nat_cmp, ordering_then}
use Rattle.std.specs.Cmp.Lexicographic.{slice_cmp}
use Rattle.ledger_model.specs.Order.{tx_cmp}
use Rattle.ledger_model.specs.OrderLaws.{value_cmp-parts}
use Rattle.ledger_model.proofs.order.BatchOrd.cmp.Goals as goal

pub returns : goal.returns
returns c =
    let v = c.args.self.now in
    let w = c.args.other.now in
    let by_parts : c.then_with.result ≡ ordering_then (nat_cmp (length v) (length w)) (slice_cmp tx_cmp v w) = search rules in
    by_parts ∙ sym (value_cmp-parts v w)
