-- the table has what the histories so far send
use Rattle.std.proofs.Common.{take}
use Rattle.history_audit.specs.Tables.{IsTableOf}
use Rattle.history_audit.proofs.sending.sent_in.Given as goal

abbrev pub invariant-loop-history : goal.invariant-loop-history
invariant-loop-history l = IsTableOf (take l.history-index l.histories) l.table
