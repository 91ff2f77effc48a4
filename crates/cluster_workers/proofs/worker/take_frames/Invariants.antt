-- no more frames than passes of the loop
use Rattle.std.proofs.Common.{◌≤◌, vec_len}
use Rattle.cluster_workers.proofs.worker.take_frames.Given as goal

abbrev pub invariant-loop-taken : goal.invariant-loop-taken
invariant-loop-taken g l = vec_len l.frames ≤ l._taken
