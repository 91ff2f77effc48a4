use Rattle.std.proofs.Common.{length}
use Rattle.history_audit.proofs.counting.+do_replicas_differ.Given as goal

abbrev pub decreases-do_replicas_differ : goal.decreases-do_replicas_differ
decreases-do_replicas_differ l = length l.histories.now
