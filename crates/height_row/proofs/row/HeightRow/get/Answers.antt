use Rattle.std.proofs.Common.{◌≡◌, ap, sym, ◌∙◌}
use Rattle.std.specs.Option.{option_copied}
use Rattle.std.proofs.lemmas.Bool.{ltb-true, ltb-false}
use Rattle.tally.specs.Tallies.{all_read, read_of}
use Rattle.height_row.specs.Heights.{row_at}
use Rattle.height_row.proofs.HeightSlots.{slot_read, none_past}
use Rattle.height_row.proofs.OpenRows.{own_rows, not_placed, placed}
use Rattle.height_row.proofs.row.HeightRow.get.Goals as goal

pub returns-in_err-index_of-clause-row : goal.returns-in_err-index_of-clause-row
returns-in_err-index_of-clause-row c =
    rw (sym c.self.view_is)
    (ap option_copied c.from_residual.ensures
    ∙ sym (not_placed _ _ _ c.self.inside.slots.items c.self.invariant.1 c.args.height _ (rw (sym c.self.view_is) at c.index_of.ensures)
    c.in_err-index_of.was))

pub returns-in_err-index_of-clause-own : goal.returns-in_err-index_of-clause-own
returns-in_err-index_of-clause-own c = rw (sym c.self.view_is) (own_rows _ _ _ c.self.inside.slots.items c.self.invariant.1)

pub returns-in_err-get-clause-row : goal.returns-in_err-get-clause-row
returns-in_err-get-clause-row c =
    let slots = c.self.inside.slots.items in
    let past = ltb-false _ _ (sym (rw c.deref.ensures.value at c.in_err-get.ensures.lookup).0) in
    rw (sym c.self.view_is)
    (ap option_copied c.from_residual-in_err-get.ensures
    ∙ sym (placed _ _ _ slots c.self.invariant.1 c.args.height _ (rw (sym c.self.view_is) at c.index_of.ensures) _ c.in_ok-index_of.was
    ∙ none_past slots _ past))

pub returns-in_err-get-clause-own : goal.returns-in_err-get-clause-own
returns-in_err-get-clause-own c = rw (sym c.self.view_is) (own_rows _ _ _ c.self.inside.slots.items c.self.invariant.1)

pub returns-clause-row : goal.returns-clause-row
returns-clause-row c =
    let slots = c.self.inside.slots.items in
    let found = rw c.deref.ensures.value at c.in_ok-get.ensures.lookup in
    let there : row_at (all_read slots) c.args.height ≡ read_of slots c.in_ok-index_of.field-0 =
    placed _ _ _ slots c.self.invariant.1 c.args.height _ (rw (sym c.self.view_is) at c.index_of.ensures) _ c.in_ok-index_of.was in
    let slot : read_of slots c.in_ok-index_of.field-0 ≡ c.in_ok-get.field-0.now =
    slot_read slots _ c.in_ok-get.field-0.now (ltb-true _ _ (sym found.0)) found.1 in
    rw (sym c.self.view_is) (c.as_ref.ensures.value ∙ sym (there ∙ slot))

pub returns-clause-own : goal.returns-clause-own
returns-clause-own c = rw (sym c.self.view_is) (own_rows _ _ _ c.self.inside.slots.items c.self.invariant.1)
