use Rattle.std.proofs.Common.{◌<◌, ◌+◌, length, arith}
use Rattle.std.proofs.lemmas.List.{set-get_or}
use Rattle.height_row.proofs.HeightSlots.{slot_is}
use Rattle.height_row.proofs.Turns.{passed, closes, due, has_closing}
use Rattle.height_row.proofs.round_closing.close_each.Goals as goal
use Rattle.height_row.proofs.round_closing.close_each.Goals.{in-Some, in_default}

pub loop-slot-preserved : goal.loop-slot-preserved
loop-slot-preserved c =
    let within : c.loop-slot.slot-index < length c.loop-slot.slots = omega arith in
    elim c.match-slot.branch [
      | in-Some w ↦
          let is = slot_is c.loop-slot.slots c.loop-slot.slot-index c.slot-item.is w.in-Some.is in
          let more = rw w.unwrap-closing.ensures at w.next.ensures.items in
          rw (w.slots-is, w.closings-is)
          (closes (c.args.clock + 1) _ _ c.loop-slot.slots c.loop-slot.slot-index _ c.loop-slot.invariant within w.in-Some.instance is
          w.unwrap-closing.result _ more w.close.new.self w.close.ensures.row)
      | in_default w ↦
          let is = slot_is c.loop-slot.slots c.loop-slot.slot-index c.slot-item.is w.in_default.is in
          rw (w.slots-is, w.closings-is, set-get_or c.loop-slot.slots c.loop-slot.slot-index c.slot-item.result)
          (passed (c.args.clock + 1) _ _ c.loop-slot.slots c.loop-slot.slot-index _ c.loop-slot.invariant within is)
    ]

pub unwrap-closing-requires : goal.unwrap-closing-requires
unwrap-closing-requires c =
    let within : c.loop-slot.slot-index < length c.loop-slot.slots = omega arith in
    let is = slot_is c.loop-slot.slots c.loop-slot.slot-index c.slot-item.is c.in-Some.is in
    let more = has_closing (c.args.clock + 1) _ _ c.loop-slot.slots c.loop-slot.slot-index _ c.loop-slot.invariant within
    c.in-Some.instance is in
    c.next.ensures.variant.1 (omega (arith, more))

pub close-requires-clause-ending : goal.close-requires-clause-ending
close-requires-clause-ending c =
    let within : c.loop-slot.slot-index < length c.loop-slot.slots = omega arith in
    let is = slot_is c.loop-slot.slots c.loop-slot.slot-index c.slot-item.is c.in-Some.is in
    (due (c.args.clock + 1) _ _ c.loop-slot.slots c.loop-slot.slot-index _ c.loop-slot.invariant within c.in-Some.instance is
    c.unwrap-closing.result _ (rw c.unwrap-closing.ensures at c.next.ensures.items)).0

pub close-requires-clause-own : goal.close-requires-clause-own
close-requires-clause-own c =
    let within : c.loop-slot.slot-index < length c.loop-slot.slots = omega arith in
    let is = slot_is c.loop-slot.slots c.loop-slot.slot-index c.slot-item.is c.in-Some.is in
    (due (c.args.clock + 1) _ _ c.loop-slot.slots c.loop-slot.slot-index _ c.loop-slot.invariant within c.in-Some.instance is
    c.unwrap-closing.result _ (rw c.unwrap-closing.ensures at c.next.ensures.items)).1
