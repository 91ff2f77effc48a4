-- The entry that a turn of one event adds, and what a turn leaves.
use Rattle.ledger_model.specs.Meanings.{Meanings}
use Rattle.std.proofs.Common.{◌≡◌, ℕ, List, [], ◌∷◌, ◌++◌, length, Some, slice_get, ap, ◌∙◌, option_map}
use Rattle.std.specs.Prelude.{Result, Ok, Err, OnOk, IfErr}
use Rattle.ledger_model.specs.declared.event.Event.{Event}
use Rattle.ledger_model.specs.declared.fault.ApplyFault.{ApplyFault}
use Rattle.ledger_model.specs.declared.history.Entry.{Entry}
use Rattle.ledger_model.proofs.Lists.{get_last}
use Rattle.locked_replica.specs.Applying.{AppliesEach, AppliesSome}
use Rattle.locked_replica.specs.States.{StateView}
use Rattle.locked_replica.proofs.Applying.{same_replica}

-- the entry after the old ones has the event
pub entry_taken : (meaning : Meanings) (old new : StateView) (event : Event) → AppliesEach meaning old (event ∷ []) new
    → option_map (λ (e : Entry). e.event) (slice_get new.entries (length old.entries)) ≡ Some event
entry_taken meaning old new event each =
    let e : Entry = record { event = event; reply = each.1.0.reply } in
    ap (λ (r : StateView). option_map (λ (e : Entry). e.event) (slice_get r.entries (length old.entries))) each.1.1
    ∙ ap (λ (es : List Entry). option_map (λ (e : Entry). e.event) (slice_get es (length old.entries))) each.1.0.added
    ∙ ap (option_map (λ (e : Entry). e.event)) (get_last old.entries e)

-- a turn leaves a replica's number
pub number_kept : (meaning : Meanings) (r : Result ℕ ApplyFault) (events : List Event) (old new : StateView)
    → OnOk r (AppliesEach meaning old events new)
    → IfErr r (λ why. AppliesSome meaning old events why new) → new.id ≡ old.id
number_kept meaning (Ok index) events old new each some = ap (λ (s : StateView). s.id) (same_replica meaning events old new each)
number_kept meaning (Err why) events old new each some =
    ap (λ (s : StateView). s.id) some.refuses.rest ∙ ap (λ (s : StateView). s.id)
    (same_replica meaning some.before old some.between some.applied)
