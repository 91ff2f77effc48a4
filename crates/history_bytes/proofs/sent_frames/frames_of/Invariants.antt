use Rattle.std.proofs.Common.{◌≡◌, ◌-◌}
use Rattle.history_bytes.specs.HistoryReading.{frames_of}
use Rattle.statements.proofs.Loops.{with_front}
use Rattle.history_bytes.proofs.sent_frames.frames_of.Given as goal

abbrev pub invariant-loop : goal.invariant-loop
invariant-loop l =
    with_front l.frames.items (frames_of l.fn.version (l.count - l.counter) l.input) ≡ frames_of l.fn.version l.count l.fn.input
