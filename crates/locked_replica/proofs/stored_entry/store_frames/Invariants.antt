-- the frames so far are stored, and the table has their strings
use Rattle.std.proofs.Common.{◌≡◌, length, map, take}
use Rattle.locked_replica.specs.Strings.{Extends, with_strings}
use Rattle.locked_replica.specs.StoredEntries.{AreSentWithin, sent_of}
use Rattle.locked_replica.proofs.stored_entry.store_frames.Given as goal

abbrev pub invariant-loop-sent : goal.invariant-loop-sent
invariant-loop-sent l = record {
  sent : map (sent_of l.strings) l.stored.items ≡ take l.sent-index l.frames;
  within : AreSentWithin (length l.strings) l.stored.items;
  strings : l.strings ≡ with_strings l.initial.strings (map (λ s. s.frame) (take l.sent-index l.frames));
  grown : Extends l.initial.strings l.strings;
}
