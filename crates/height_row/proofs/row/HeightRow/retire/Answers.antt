use Rattle.std.proofs.Common.{◌≡◌, ◌-◌, drop, length, refl, sym, ap, ◌∙◌}
use Rattle.std.specs.Prelude.{min}
use Rattle.height_row.proofs.HeightSlots.{AreLeft, are_left}
use Rattle.height_row.proofs.OpenRows.{own_rows}
use Rattle.height_row.proofs.Floors.{none_below, same_from}
use Rattle.height_row.proofs.row.HeightRow.retire.Goals as goal

left : (c : goal.After-floor-1)
    → AreLeft c.self.inside.config c.self.inside.id c.args.floor c.self.inside.slots.items c.drop-drain.new.self.0.items
left c =
    let slots = c.self.inside.slots.items in
    let gone : c.min.result ≡ min (c.args.floor - c.self.inside.floor) (length slots) =
    rw (sym c.number.ensures, sym c.number-2.ensures, sym c.self.inside.slots.ok.0, sym c.len.ensures) c.min.ensures in
    are_left _ _ _ c.args.floor slots _ c.self.invariant.1 (rw (sym c.self.view_is) at c.requires.above)
    (c.drop-drain.ensures.items ∙ c.drain.ensures.kept ∙ ap (λ k. drop k slots) gone)

pub invariant_of-self : goal.invariant_of-self
invariant_of-self c = (c.self.invariant.0, (left c).all)

pub returns-clause-own : goal.returns-clause-own
returns-clause-own c = own_rows _ _ _ _ (left c).all

pub returns-clause-retired : goal.returns-clause-retired
returns-clause-retired c = rw (sym c.self.view_is, (left c).rows) refl

pub returns-clause-below : goal.returns-clause-below
returns-clause-below c h low =
    rw (ap (λ view. view.rows) (returns-clause-retired c)) (none_below c.args.floor c.args.self.now.rows h low)

pub returns-clause-from : goal.returns-clause-from
returns-clause-from c h high =
    rw (ap (λ view. view.rows) (returns-clause-retired c)) (same_from c.args.floor c.args.self.now.rows h high)
