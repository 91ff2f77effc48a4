-- A turn never makes a history shorter.
use Rattle.ledger_model.specs.Meanings.{Meanings}
use Rattle.std.proofs.Common.{ℕ, ◌≤◌, List, length, arith}
use Rattle.std.specs.Prelude.{Result, Ok, Err, OnOk, IfErr}
use Rattle.ledger_model.specs.declared.event.Event.{Event}
use Rattle.ledger_model.specs.declared.fault.ApplyFault.{ApplyFault}
use Rattle.locked_replica.specs.Applying.{AppliesEach, AppliesSome}
use Rattle.locked_replica.specs.States.{StateView}
use Rattle.locked_replica.proofs.Applying.{longer_by, longer_until}

pub grown : (meaning : Meanings) (r : Result ℕ ApplyFault) (es : List Event) (old new : StateView) → OnOk r (AppliesEach meaning old es new)
    → IfErr r (λ why. AppliesSome meaning old es why new) → length old.entries ≤ length new.entries
grown meaning (Ok index) es old new each some = let longer = longer_by meaning es old new each in omega (arith, longer)
grown meaning (Err why) es old new each some = let longer = longer_until meaning es old new why some in omega (arith, longer)
