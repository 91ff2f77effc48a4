use Rattle.std.proofs.Common.{◌<◌, length}
use Rattle.locked_replica.specs.declared.stored_entry.StoredFrame.{StoredFrame}
use Rattle.locked_replica.proofs.StoredEntries.{each_read}
use Rattle.locked_replica.proofs.stored_entry.frames_of.Goals as goal

pub string-requires : goal.string-requires
string-requires c =
    each_read (λ (s : StoredFrame). s.position < length c.args.strings.now) c.args.stored.now c.loop-sent.sent-index c.sent-item.result
    c.requires c.loop-sent-test.true c.sent-item.is
