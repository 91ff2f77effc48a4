-- what the table gains from the rest, and what it gained, is what it gains from all
use Rattle.std.proofs.Common.{List, drop}
use Rattle.history_audit.specs.declared.sent_table.SentStatement.{SentStatement}
use Rattle.history_audit.specs.Tables.{Gains, statements_bytes, statements_of}
use Rattle.history_audit.proofs.sending.add_frames.Given as goal

abbrev pub invariant-loop-sent : goal.invariant-loop-sent
invariant-loop-sent l =
    (final : List SentStatement)
    → Gains l.table l.replica (statements_bytes (statements_of (drop l.sent-index l.frames))) final
    → Gains l.fn.table l.replica (statements_bytes (statements_of l.frames)) final
