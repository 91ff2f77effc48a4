use Rattle.std.proofs.Common.{arith}
use Rattle.std.proofs.lemmas.Grind.{common_steps}
use Rattle.tally.proofs.Readings.{all_read_more}
use Rattle.height_row.proofs.round_closing.prepare_each.Goals as goal
use Rattle.height_row.proofs.round_closing.prepare_each.Goals.{in-Some+in_ok-prepare_end+in_ok-push, in_default}

pub loop-slot-preserved : goal.loop-slot-preserved
loop-slot-preserved c =
    let more = all_read_more c.args.slots.now c.loop-slot.slot-index c.slot-item.result c.loop-slot-test.true c.slot-item.is in
    elim c.match-slot.branch [
      | in-Some+in_ok-prepare_end+in_ok-push w ↦ grind (arith, common_steps, more)
      | in_default w ↦ grind (arith, common_steps, more)
    ]
