use Rattle.std.proofs.Common.{◌+◌, sym, ap, ◌∙◌}
use Rattle.tally.specs.Tallies.{all_read}
use Rattle.height_row.specs.Heights.{closed_each}
use Rattle.height_row.proofs.HeightSlots.{slots_ascend, slots_own}
use Rattle.height_row.proofs.OpenRows.{own_rows}
use Rattle.height_row.proofs.Turns.{mades, are_closings, written_back}
use Rattle.height_row.proofs.row.HeightRow.close_all.Goals as goal

pub close_each-requires-clause-closings : goal.close_each-requires-clause-closings
close_each-requires-clause-closings c =
    rw c.deref_mut.ensures.value
    (are_closings c.self.inside.config (c.args.clock + 1) c.self.inside.id (all_read c.self.inside.slots.items) c.args.closings.items
    (rw (sym c.self.view_is) at c.requires.endings) (slots_own _ _ _ c.self.inside.slots.items c.self.invariant.1)
    (rw (sym c.self.view_is) at c.requires.own))

pub invariant_of-self : goal.invariant_of-self
invariant_of-self c =
    rw (written_back c.self.inside.slots.ok.0 c.deref_mut.ensures.value c.close_each.auto.slots) (
      c.self.invariant.0,
      c.close_each.ensures.slots _ _ _ (rw c.deref_mut.ensures.value c.self.invariant.1),
    )

pub returns-clause-ascend : goal.returns-clause-ascend
returns-clause-ascend c = slots_ascend _ _ _ _ (invariant_of-self c).1

pub returns-clause-own : goal.returns-clause-own
returns-clause-own c = own_rows _ _ _ _ (invariant_of-self c).1

pub returns-clause-rows : goal.returns-clause-rows
returns-clause-rows c =
    rw (written_back c.self.inside.slots.ok.0 c.deref_mut.ensures.value c.close_each.auto.slots, sym c.self.view_is)
    (c.close_each.ensures.rows
    ∙ ap (λ slots. closed_each (c.args.clock + 1) (all_read slots) (mades c.args.closings.items)) c.deref_mut.ensures.value)
