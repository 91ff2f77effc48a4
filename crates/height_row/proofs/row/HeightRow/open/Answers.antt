use Rattle.std.proofs.Common.{◌≡◌, ◌-◌, Some, refl, sym, ap, ◌∙◌}
use Rattle.std.specs.Prelude.{slice_set}
use Rattle.std.proofs.lemmas.Option.{same_Some}
use Rattle.height_row.proofs.OpenRows.{IsOpened, own_rows, is_opened}
use Rattle.height_row.proofs.Opening.{may_be_opened}
use Rattle.height_row.proofs.row.HeightRow.open.Goals as goal

-- it is refused
pub returns-in-Err-clause-own : goal.returns-in-Err-clause-own
returns-in-Err-clause-own c = rw (sym c.self.view_is) (own_rows _ _ _ c.self.inside.slots.items c.self.invariant.1)

-- there is no memory
pub returns-in_err-instance-clause-own : goal.returns-in_err-instance-clause-own
returns-in_err-instance-clause-own c = rw (sym c.self.view_is) (own_rows _ _ _ c.self.inside.slots.items c.self.invariant.1)

pub invariant_of-self : goal.invariant_of-self
invariant_of-self c =
    (c.self.invariant.0, λ place row is. c.self.invariant.1 place row (sym (c.in_err-make_room.ensures.each place) ∙ is))

pub returns-in_err-make_room-clause-own : goal.returns-in_err-make_room-clause-own
returns-in_err-make_room-clause-own c = own_rows _ _ _ _ (invariant_of-self c).1

-- it is opened
opened : (c : goal.Joined-index_mut)
    → IsOpened c.self.inside.config c.self.inside.id c.self.inside.floor c.self.inside.slots.items
    (slice_set c.make_room.new.slots.items (c.number.result - c.number-2.result) (Some c.in_ok-instance.instance)) c.args.height
    c.in_ok-instance.instance
opened c =
    let may = may_be_opened c.self.inside.floor _ c.args.committed c.args.height (sym (rw (sym c.self.view_is) at c.in_default.ensures)) in
    let at : c.number.result - c.number-2.result ≡ c.args.height - c.self.inside.floor = rw (c.number.ensures, c.number-2.ensures) refl in
    is_opened _ _ _ c.self.inside.slots.items c.make_room.new.slots.items c.self.invariant.1 c.in_ok-make_room.ensures.each
    c.args.height may _ at c.in_ok-make_room.ensures.room c.in_ok-instance.instance c.args.initial.now c.in_ok-instance.ensures.row

pub invariant_of-self-2 : goal.invariant_of-self-2
invariant_of-self-2 c = (c.self.invariant.0, (opened c).all)

pub returns-clause-opened : goal.returns-clause-opened
returns-clause-opened c = rw (sym c.self.view_is) ((opened c).there ∙ ap Some c.in_ok-instance.ensures.row)

pub returns-clause-matches : goal.returns-clause-matches
returns-clause-matches c = λ row is. rw (sym (same_Some _ _ (sym (opened c).there ∙ is))) c.in_ok-instance.ensures.matches

pub returns-clause-apart : goal.returns-clause-apart
returns-clause-apart c = rw (sym c.self.view_is) (opened c).apart

pub returns-clause-own : goal.returns-clause-own
returns-clause-own c = own_rows _ _ _ _ (opened c).all
