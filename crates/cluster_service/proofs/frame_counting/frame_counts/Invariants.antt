-- the entries so far are counted
use Rattle.std.proofs.Common.{◌≡◌, take}
use Rattle.ledger_model.specs.declared.reply.Ignored.{Ignored}
use Rattle.http_messages.specs.FrameCounts.{ignored_for}
use Rattle.cluster_service.specs.FrameCounting.{accepted_in, ignored_in}
use Rattle.cluster_service.proofs.frame_counting.frame_counts.Given as goal

abbrev pub invariant-loop-index : goal.invariant-loop-index
invariant-loop-index g l = record {
  accepted : l.counts.accepted ≡ accepted_in (take l.index l.state.entries);
  ignored : (cause : Ignored) → ignored_for l.counts cause ≡ ignored_in cause (take l.index l.state.entries);
}
