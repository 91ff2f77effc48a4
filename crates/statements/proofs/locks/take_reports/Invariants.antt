use Rattle.std.proofs.Common.{◌≡◌, ◌-◌}
use Rattle.ledger_model.specs.Reading.{proof_at}
use Rattle.statements.proofs.Loops.{with_front}
use Rattle.statements.proofs.locks.take_reports.Given as goal

abbrev pub invariant-loop : goal.invariant-loop
invariant-loop l = with_front l.reports.items (proof_at l.fn.version (l.count - l.counter) l.cursor)
    ≡ proof_at l.fn.version l.count l.fn.cursor
