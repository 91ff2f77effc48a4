use Rattle.std.proofs.Common.{is_some, refl, sym, subst, ap, ◌∙◌, arith}
use Rattle.std.specs.Option.{option_copied_mut}
use Rattle.std.proofs.lemmas.Option.{same_Some}
use Rattle.instance.specs.Plans.{IsOwnMade}
use Rattle.instance.proofs.SameHeight.{same_self}
use Rattle.height_row.proofs.OpenRows.{IsPut, own_rows, open_within, open_slot, is_put}
use Rattle.height_row.proofs.row.HeightRow.close.Goals as goal

-- the height is open, so it has a place
pub unwrap-place-requires : goal.unwrap-place-requires
unwrap-place-requires c = rw (c.place.ensures, c.requires.open) refl

pub index_mut-requires : goal.index_mut-requires
index_mut-requires c =
    let found = rw (sym c.self.view_is) at (sym c.place.ensures ∙ c.unwrap-place.ensures) in
    let within = open_within _ _ _ c.self.inside.slots.items c.self.invariant.1 _ (rw (sym c.self.view_is) at c.requires.open)
    c.unwrap-place.result found in
    omega (arith, within, c.self.inside.slots.ok.0)

pub unwrap-requires : goal.unwrap-requires
unwrap-requires c =
    let found = rw (sym c.self.view_is) at (sym c.place.ensures ∙ c.unwrap-place.ensures) in
    let opened = rw (sym c.self.view_is) at c.requires.open in
    let slot = open_slot _ _ _ c.self.inside.slots.items c.self.invariant.1 _ opened c.unwrap-place.result found
    c.index_mut.result.now c.index_mut.ensures.value in
    c.as_mut.ensures.variant ∙ ap is_some (sym slot) ∙ opened

-- its instance is there
held : (c : goal.After-unwrap)
    → IsPut c.self.inside.config c.self.inside.id c.self.inside.floor c.self.inside.slots.items c.args.height c.unwrap-place.result
    c.unwrap.result.now c.unwrap.result.now
held c =
    let found = rw (sym c.self.view_is) at (sym c.place.ensures ∙ c.unwrap-place.ensures) in
    let some = ap option_copied_mut (sym c.unwrap.ensures) ∙ c.as_mut.ensures.value in
    is_put _ _ _ c.self.inside.slots.items c.self.invariant.1 _ (rw (sym c.self.view_is) at c.requires.open) c.unwrap-place.result found
    c.index_mut.result.now c.index_mut.ensures.value c.unwrap.result.now c.unwrap.result.now some (same_self c.unwrap.result.now)

pub close-requires-clause-ending : goal.close-requires-clause-ending
close-requires-clause-ending c = (rw (sym c.self.view_is) at c.requires.ending) c.unwrap.result.now (held c).was

pub close-requires-clause-own : goal.close-requires-clause-own
close-requires-clause-own c = rw ((held c).own.0, (held c).own.1) (rw (sym c.self.view_is) at c.requires.own)

-- and another of the same height, once it has done this
put : (c : goal.After-self-1)
    → IsPut c.self.inside.config c.self.inside.id c.self.inside.floor c.self.inside.slots.items c.args.height c.unwrap-place.result
    c.unwrap.result.now c.close.new.self
put c =
    let found = rw (sym c.self.view_is) at (sym c.place.ensures ∙ c.unwrap-place.ensures) in
    let some = ap option_copied_mut (sym c.unwrap.ensures) ∙ c.as_mut.ensures.value in
    is_put _ _ _ c.self.inside.slots.items c.self.invariant.1 _ (rw (sym c.self.view_is) at c.requires.open) c.unwrap-place.result found
    c.index_mut.result.now c.index_mut.ensures.value c.unwrap.result.now c.close.new.self some c.close.ensures.same

pub returns-clause-matches : goal.returns-clause-matches
returns-clause-matches c =
    λ row new was is.
    rw (sym (same_Some _ _ (sym (put c).was ∙ (rw (sym c.self.view_is) at was))), sym (same_Some _ _ (sym (put c).there ∙ is)))
    c.close.ensures.matches

pub returns-clause-open : goal.returns-clause-open
returns-clause-open c = ap is_some (put c).there

pub returns-clause-apart : goal.returns-clause-apart
returns-clause-apart c = rw (sym c.self.view_is) (put c).apart

pub invariant_of-self : goal.invariant_of-self
invariant_of-self c = (c.self.invariant.0, (put c).all)

pub returns-clause-own : goal.returns-clause-own
returns-clause-own c = own_rows _ _ _ _ (put c).all
