use Rattle.std.proofs.Common.{◌≡◌, ◌-◌}
use Rattle.ledger_model.specs.Reading.{values_at}
use Rattle.statements.proofs.Loops.{with_front}
use Rattle.statements.proofs.values.take_batches.Given as goal

abbrev pub invariant-loop : goal.invariant-loop
invariant-loop l = with_front l.batches.items (values_at l.fn.version (l.count - l.counter) l.cursor)
    ≡ values_at l.fn.version l.count l.fn.cursor
