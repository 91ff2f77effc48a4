use Rattle.std.proofs.Common.{is_some, refl, sym, ap, ◌∙◌, arith}
use Rattle.std.specs.Option.{option_copied_mut}
use Rattle.std.proofs.lemmas.Option.{same_Some}
use Rattle.std.proofs.lemmas.Result.{IfOk-weaker}
use Rattle.std.proofs.lemmas.Grind.{common_steps}
use Rattle.ledger_model.specs.Logs.{height_of}
use Rattle.instance.proofs.SameHeight.{same_self}
use Rattle.height_row.proofs.OpenRows.{IsPut, own_rows, open_within, open_slot, is_put}
use Rattle.height_row.proofs.row.HeightRow.read_with.Given.{Over}
use Rattle.height_row.proofs.row.HeightRow.read_with.Goals as goal

-- the height is open, so it has a place
pub unwrap-place-requires : goal.unwrap-place-requires
unwrap-place-requires g c =
    let height = c.height.ensures ∙ ap height_of c.statement.ensures.statement in
    rw (c.place.ensures, height, c.requires.open) refl

pub index_mut-requires : goal.index_mut-requires
index_mut-requires g c =
    let height = c.height.ensures ∙ ap height_of c.statement.ensures.statement in
    let found = rw (sym c.self.view_is, height) at (sym c.place.ensures ∙ c.unwrap-place.ensures) in
    let within = open_within _ _ _ c.self.inside.slots.items c.self.invariant.1 _ (rw (sym c.self.view_is) at c.requires.open)
    c.unwrap-place.result found in
    omega (arith, within, c.self.inside.slots.ok.0)

pub unwrap-requires : goal.unwrap-requires
unwrap-requires g c =
    let height = c.height.ensures ∙ ap height_of c.statement.ensures.statement in
    let found = rw (sym c.self.view_is, height) at (sym c.place.ensures ∙ c.unwrap-place.ensures) in
    let opened = rw (sym c.self.view_is) at c.requires.open in
    let slot = open_slot _ _ _ c.self.inside.slots.items c.self.invariant.1 _ opened c.unwrap-place.result found
    c.index_mut.result.now c.index_mut.ensures.value in
    c.as_mut.ensures.variant ∙ ap is_some (sym slot) ∙ opened

-- its instance is there
held : (g : Over) (c : goal.After-read_with-arg-1 g)
    → IsPut c.self.inside.config c.self.inside.id c.self.inside.floor c.self.inside.slots.items
    (height_of c.args.frame.statement) c.unwrap-place.result
    c.unwrap.result.now c.unwrap.result.now
held g c =
    let height = c.height.ensures ∙ ap height_of c.statement.ensures.statement in
    let found = rw (sym c.self.view_is, height) at (sym c.place.ensures ∙ c.unwrap-place.ensures) in
    let some = ap option_copied_mut (sym c.unwrap.ensures) ∙ c.as_mut.ensures.value in
    is_put _ _ _ c.self.inside.slots.items c.self.invariant.1 _ (rw (sym c.self.view_is) at c.requires.open) c.unwrap-place.result found
    c.index_mut.result.now c.index_mut.ensures.value c.unwrap.result.now c.unwrap.result.now some (same_self c.unwrap.result.now)

pub read_with-requires-clause-signer : goal.read_with-requires-clause-signer
read_with-requires-clause-signer g c = rw (held g c).own.0 (rw (sym c.self.view_is) at c.requires.signer)

pub read_with-requires-clause-version : goal.read_with-requires-clause-version
read_with-requires-clause-version g c = rw (held g c).own.0 (rw (sym c.self.view_is) at c.requires.version)

pub read_with-requires-clause-height : goal.read_with-requires-clause-height
read_with-requires-clause-height g c = sym (held g c).own.2

-- and another of the same height, once it has done this
put : (g : Over) (c : goal.After-self-1 g)
    → IsPut c.self.inside.config c.self.inside.id c.self.inside.floor c.self.inside.slots.items
    (height_of c.args.frame.statement) c.unwrap-place.result
    c.unwrap.result.now c.read_with.new.self
put g c =
    let height = c.height.ensures ∙ ap height_of c.statement.ensures.statement in
    let found = rw (sym c.self.view_is, height) at (sym c.place.ensures ∙ c.unwrap-place.ensures) in
    let some = ap option_copied_mut (sym c.unwrap.ensures) ∙ c.as_mut.ensures.value in
    is_put _ _ _ c.self.inside.slots.items c.self.invariant.1 _ (rw (sym c.self.view_is) at c.requires.open) c.unwrap-place.result found
    c.index_mut.result.now c.index_mut.ensures.value c.unwrap.result.now c.read_with.new.self some c.read_with.ensures.same

pub returns-clause-answer : goal.returns-clause-answer
returns-clause-answer g c =
    IfOk-weaker c.read_with.result _ _
    (λ r is row was. rw (sym (same_Some _ _ (sym (put g c).was ∙ (rw (sym c.self.view_is) at was)))) is) c.read_with.ensures.answer

pub returns-clause-read : goal.returns-clause-read
returns-clause-read g c =
    IfOk-weaker c.read_with.result _ _
    (λ r done row new was is.
    rw (sym (same_Some _ _ (sym (put g c).was ∙ (rw (sym c.self.view_is) at was))), sym (same_Some _ _ (sym (put g c).there ∙ is))) done)
    c.read_with.ensures.read

pub returns-clause-open : goal.returns-clause-open
returns-clause-open g c = ap is_some (put g c).there

pub returns-clause-apart : goal.returns-clause-apart
returns-clause-apart g c = rw (sym c.self.view_is) (put g c).apart

pub invariant_of-self : goal.invariant_of-self
invariant_of-self g c = (c.self.invariant.0, (put g c).all)

pub returns-clause-own : goal.returns-clause-own
returns-clause-own g c = own_rows _ _ _ _ (put g c).all

pub returns-clause-err : goal.returns-clause-err
returns-clause-err g c = grind (arith, common_steps)

pub returns-clause-ignored : goal.returns-clause-ignored
returns-clause-ignored g c = grind (arith, common_steps)
