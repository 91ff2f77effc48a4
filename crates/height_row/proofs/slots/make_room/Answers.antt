use Rattle.std.proofs.Common.{[], ◌∷◌, ap, ◌∙◌, append-nil}
use Rattle.std.specs.Prelude.{None}
use Rattle.std.proofs.lemmas.List.Elements.{filter_map-append}
use Rattle.tally.specs.Tallies.{all_read, read_of}
use Rattle.height_row.proofs.HeightSlots.{empty_more}
use Rattle.height_row.proofs.slots.make_room.Goals as goal

pub loop-slots-preserved : goal.loop-slots-preserved
loop-slots-preserved c =
    let items = c.loop-slots.slots.items in (
      ap all_read c.in_ok-push.ensures.items ∙ filter_map-append (λ slot. slot) items (None ∷ []) ∙ append-nil (all_read items)
          ∙ c.loop-slots.invariant.0,
      λ i.
          ap (λ slots. read_of slots i) c.in_ok-push.ensures.items ∙ empty_more items i ∙ c.loop-slots.invariant.1 i,
    )
