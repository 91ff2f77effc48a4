use Rattle.std.proofs.Common.{◌∙◌, ◌-◌, ◌++◌, ap}
use Rattle.std.specs.List.{range_with_len}
use Rattle.run_picture.specs.declared.entry_facts.Fact.TheVariants.{Retires}
use Rattle.run_picture.specs.Facts.{mark_in}
use Rattle.run_picture.specs.Parts.{drawn_round}
use Rattle.run_picture.specs.Retiring.{retired_marks}
use Rattle.run_picture.proofs.RetiredHeights.{heights_next}
use Rattle.run_picture.proofs.retiring.add_heights.Goals as goal

pub loop-number-preserved : goal.loop-number-preserved
loop-number-preserved c =
    heights_next c.args.part.now c.args.replica c.args.index c.args.clock c.loop-number.number c.args.end c.loop-number.out.items
    c.add_mark.new.out.items c.args.out.now.items (retired_marks c.args.part.now c.args.replica c.args.index c.args.clock
    (range_with_len c.args.first (c.args.end - c.args.first)))
    c.loop-number-test.true c.loop-number.invariant
    (c.in_ok-add_mark.ensures
    ∙ ap (λ h. c.loop-number.out.items ++ mark_in c.args.part.now c.args.replica c.args.index
    (drawn_round c.args.part.now c.args.clock) h Retires) c.new.ensures)
