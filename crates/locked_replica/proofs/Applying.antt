-- What a list of events does, put together from what each event does.
use Rattle.ledger_model.specs.Meanings.{Meanings}
use Rattle.std.proofs.Common.{◌≡◌, ℕ, ◌+◌, ◌≤◌, List, [], ◌∷◌, ◌++◌, length, refl, sym, subst, ap, ◌∙◌, length-append, arith}
use Rattle.ledger_model.specs.declared.event.Event.{Event}
use Rattle.ledger_model.specs.declared.history.Entry.{Entry}
use Rattle.replica_core.specs.Leaves.{signed_by}
use Rattle.locked_replica.specs.Applying.{AppliesEvent, AppliesEach, AppliesSome}
use Rattle.ledger_model.specs.declared.fault.ApplyFault.{ApplyFault}
use Rattle.locked_replica.specs.States.{StateView, UsesAsSigned}

-- one event
pub applies_one : (meaning : Meanings) (old new : StateView) (e : Event) → AppliesEvent meaning old e new
    → AppliesEach meaning old (e ∷ []) new
applies_one meaning old new e applies = (new, (applies, refl))

-- one event more
pub applies_more : (meaning : Meanings) (es : List Event) (old between new : StateView) (e : Event) → AppliesEach meaning old es between
    → AppliesEvent meaning between e new
    → AppliesEach meaning old (es ++ e ∷ []) new
applies_more meaning [] old between new e same applies = (new, (subst (λ r. AppliesEvent meaning r e new) same applies, refl))
applies_more meaning (x ∷ xs) old between new e each applies =
    (each.0, (each.1.0, applies_more meaning xs each.0 between new e each.1.1 applies))

-- the replica is the same but for its history, its machine and the leaves that it used
pub same_replica : (meaning : Meanings) (es : List Event) (old new : StateView) → AppliesEach meaning old es new
    → new ≡ record old { used = new.used; entries = new.entries; machine = new.machine }
same_replica meaning [] old new same =
    subst (λ r. r ≡ record old { used = r.used; entries = r.entries; machine = r.machine }) (sym same) refl
same_replica meaning (x ∷ xs) old new each =
    same_replica meaning xs each.0 new each.1.1
    ∙ ap (λ (r : StateView). record r { used = new.used; entries = new.entries; machine = new.machine }) each.1.0.rest

-- its history has an entry more for each
pub longer_by : (meaning : Meanings) (es : List Event) (old new : StateView) → AppliesEach meaning old es new
    → length new.entries ≡ length old.entries + length es
longer_by meaning [] old new same = let entries = ap (λ (r : StateView). length r.entries) same in omega (arith, entries)
longer_by meaning (x ∷ xs) old new each =
    let rest = longer_by meaning xs each.0 new each.1.1 in
    let one = ap length each.1.0.added ∙ length-append old.entries (record { event = x; reply = each.1.0.reply } ∷ []) in
    omega (arith, rest, one)

-- no fewer leaves are used
pub least_used : (meaning : Meanings) (es : List Event) (old new : StateView) → AppliesEach meaning old es new → old.used ≤ new.used
least_used meaning [] old new same = let used = ap (λ (r : StateView). r.used) same in omega (arith, used)
least_used meaning (x ∷ xs) old new each =
    let rest = least_used meaning xs each.0 new each.1.1 in
    let one = each.1.0.least in
    omega (arith, rest, one)

-- and each statement that was added used one
pub used_as_signed : (meaning : Meanings) (es : List Event) (old new : StateView) → AppliesEach meaning old es new → UsesAsSigned old new
used_as_signed meaning [] old new same =
    let used = ap (λ (r : StateView). r.used) same in
    let signed = ap (λ (r : StateView). signed_by r.entries) same in
    omega (arith, used, signed)
used_as_signed meaning (x ∷ xs) old new each =
    let rest = used_as_signed meaning xs each.0 new each.1.1 in
    let one = each.1.0.used in
    omega (arith, rest, one)

-- after a fault the history has the entries of the events before the refused one
pub longer_until : (meaning : Meanings) (es : List Event) (old new : StateView) (why : ApplyFault)
    (some : AppliesSome meaning old es why new)
    → length new.entries ≡ length old.entries + length some.before
longer_until meaning es old new why some =
    ap (λ (r : StateView). length r.entries) some.refuses.rest ∙ longer_by meaning some.before old some.between some.applied
