use Rattle.std.proofs.Common.{◌≡◌, ◌<◌, true, length, sym, ap, ◌∙◌, arith}
use Rattle.std.specs.Prelude.{not, is_ok, vec_len, vec_capacity}
use Rattle.std.proofs.lemmas.Bool.{true≢false}
use Rattle.std.proofs.lemmas.Grind.{common_steps, elements}
use Rattle.lock_proofs.proofs.TableLaws.{put_in_place, put_between, room_between}
use Rattle.lock_proofs.proofs.table.put.Goals as goal

pub returns-then-is_held_at-clause-items : goal.returns-then-is_held_at-clause-items
returns-then-is_held_at-clause-items c =
    put_in_place c.args.lock c.args.locks.now.items c.place_for-place.result c.is_held_at.result
    (record {
      place_is = rw (c.value.ensures, c.deref.ensures.value) at c.place_for-place.ensures;
      held_is = rw (c.value-2.ensures, c.deref-2.ensures.value) at c.is_held_at.ensures;
    })
    c.if-is_held_at.true

pub returns-else-is_err-clause-items : goal.returns-else-is_err-clause-items
returns-else-is_err-clause-items c =
    let ok : is_ok c.insert.result ≡ true = c.is_err.ensures.negation ∙ ap not c.if-is_err.false in
    rw (c.insert.ensures.items, ok)
    (put_between c.args.lock c.args.locks.now.items c.place_for-place.result c.is_held_at.result
    (record {
      place_is = rw (c.value.ensures, c.deref.ensures.value) at c.place_for-place.ensures;
      held_is = rw (c.value-2.ensures, c.deref-2.ensures.value) at c.is_held_at.ensures;
    })
    c.if-is_held_at.false)

pub returns-else-is_err-clause-capacity : goal.returns-else-is_err-clause-capacity
returns-else-is_err-clause-capacity c =
    let room : vec_len c.args.locks.now < vec_capacity c.args.locks.now =
    room_between c.args.lock c.args.locks.now.items c.place_for-place.result c.is_held_at.result
    (record {
      place_is = rw (c.value.ensures, c.deref.ensures.value) at c.place_for-place.ensures;
      held_is = rw (c.value-2.ensures, c.deref-2.ensures.value) at c.is_held_at.ensures;
    })
    c.if-is_held_at.false _ _ (sym c.deref.ensures.len ∙ ap length c.deref.ensures.value) c.requires in
    (c.insert.ensures.in_place room).1.0

pub unreachable-requires : goal.unreachable-requires
unreachable-requires c =
    let room : vec_len c.args.locks.now < vec_capacity c.args.locks.now =
    room_between c.args.lock c.args.locks.now.items c.place_for-place.result c.is_held_at.result
    (record {
      place_is = rw (c.value.ensures, c.deref.ensures.value) at c.place_for-place.ensures;
      held_is = rw (c.value-2.ensures, c.deref-2.ensures.value) at c.is_held_at.ensures;
    })
    c.if-is_held_at.false _ _ (sym c.deref.ensures.len ∙ ap length c.deref.ensures.value) c.requires in
    true≢false (sym (c.insert.ensures.succeeds room) ∙ c.is_err.ensures.negation ∙ ap not c.if-is_err.true)

pub insert-requires : goal.insert-requires
insert-requires c = grind (arith, common_steps)

pub index_mut-requires : goal.index_mut-requires
index_mut-requires c = grind (arith, elements)
