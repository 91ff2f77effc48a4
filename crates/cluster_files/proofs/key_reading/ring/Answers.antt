use Rattle.std.proofs.Common.{◌∙◌, ◌<◌, length, map, take_all, Some, arith, ap, sym}
use Rattle.std.proofs.lemmas.List.{length-map}
use Rattle.std.proofs.lemmas.List.Elements.{All-push}
use Rattle.std.proofs.lemmas.Result.{err_from_is_err_and}
use Rattle.toml.specs.View.{array_view, table_view, view}
use Rattle.cluster_files.specs.FileTables.{spelled_key}
use Rattle.cluster_setup.specs.KeySizes.{HasSizes}
use Rattle.cluster_files.proofs.KeyLists.{spelled_keys-append, spelled_keys-at, spelled_keys-view}
use Rattle.cluster_files.proofs.ItemFaults.{item_right}
use Rattle.cluster_files.proofs.key_reading.ring.Goals as goal

pub returns-in_err-key-clause-right : goal.returns-in_err-key-clause-right
returns-in_err-key-clause-right c =
    let p = err_from_is_err_and c.from_residual-in_err-key.result c.from_residual-in_err-key.ensures.1 in
    let inside : c.loop-replica.replica < length c.in_ok-items.items.now.items = omega (arith, c.in_ok-items.ensures.count) in
    let at = spelled_keys-at c.in_ok-items.items.now.items c.loop-replica.replica c.index.result.now inside (rw c.from.ensures at c.index.ensures) in
    rw (p.1, p.2) (item_right (table_view c.args.table.now) (array_view c.in_ok-items.items.now) c.args.params c.loop-replica.replica
    (view c.index.result.now) c.in_err-key.field-0.0 c.in_ok-items.ensures.some c.requires.sized at (rw c.new.ensures at c.in_err-key.ensures.right))

pub loop-replica-preserved : goal.loop-replica-preserved
loop-replica-preserved c =
    let inside : c.loop-replica.replica < length c.in_ok-items.items.now.items = omega (arith, c.in_ok-items.ensures.count) in
    record {
      spelled = rw c.in_ok-push.ensures.items (spelled_keys-append c.in_ok-items.items.now.items c.loop-replica.keys.items c.loop-replica.replica c.index.result.now
          c.in_ok-key.key inside (rw c.from.ensures at c.index.ensures) c.loop-replica.invariant.spelled c.in_ok-key.ensures.some);
      sized = rw c.in_ok-push.ensures.items (All-push (HasSizes c.args.params) c.loop-replica.keys.items c.in_ok-key.key c.loop-replica.invariant.sized
          c.in_ok-key.ensures.sized);
    }

pub returns-clause-keys : goal.returns-clause-keys
returns-clause-keys c =
    let items = c.in_ok-items.items.now.items in
    let whole = take_all c.loop-replica.replica (map (λ value. spelled_key (view value)) items)
    (omega (arith, length-map items (λ value. spelled_key (view value)), c.in_ok-items.ensures.count)) in (
      array_view c.in_ok-items.items.now,
      (
        c.in_ok-items.ensures.some,
        spelled_keys-view items ∙ sym (c.loop-replica.invariant.spelled ∙ whole) ∙ ap (map Some) (sym c.new-2.ensures),
      ),
    )
