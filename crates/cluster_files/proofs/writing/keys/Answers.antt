use Rattle.std.proofs.lemmas.List.Elements.{All-push}
use Rattle.std.proofs.Common.{take}
use Rattle.cluster_files.specs.KeyBytes.{Is56Bytes}
use Rattle.cluster_files.proofs.KeyLists.{keys_data-more, take-next}
use Rattle.cluster_files.proofs.writing.keys.Goals as goal

pub loop-replica-preserved : goal.loop-replica-preserved
loop-replica-preserved c =
    let at = rw c.new.ensures at c.in-Some.ensures in
    let ring = c.args.cluster.now.ring in
    let i = c.loop-replica.replica in
    record {
      written = rw c.in_ok-push.ensures.items (keys_data-more c.loop-replica.keys.items ring i c.in_ok-key.field-0 c.in-Some.public.now
          at c.loop-replica.invariant.written c.in_ok-key.ensures.value);
      bytes = rw (take-next ring i c.in-Some.public.now at)
          (All-push Is56Bytes (take i ring) c.in-Some.public.now c.loop-replica.invariant.bytes c.key-in-loop-replica.ensures.bytes);
    }
