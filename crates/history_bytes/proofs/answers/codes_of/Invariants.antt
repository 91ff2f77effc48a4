use Rattle.std.proofs.Common.{◌≡◌, ◌-◌}
use Rattle.history_bytes.specs.HistoryReading.{codes_of}
use Rattle.statements.proofs.Loops.{with_front}
use Rattle.history_bytes.proofs.answers.codes_of.Given as goal

abbrev pub invariant-loop : goal.invariant-loop
invariant-loop l = with_front l.codes.items (codes_of (l.count - l.counter) l.input) ≡ codes_of l.count l.fn.input
