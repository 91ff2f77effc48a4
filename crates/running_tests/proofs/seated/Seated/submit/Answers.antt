use Rattle.ledger_model.specs.Kinds.{meaning_of}
use Rattle.std.proofs.Common.{◌≡◌, [], ◌∷◌, rules}
use Rattle.ledger_model.specs.declared.event.Event.TheVariants as event
use Rattle.locked_replica.specs.Applying.{AppliesEach}
use Rattle.running_tests.proofs.Taken.{entry_taken}
use Rattle.running_tests.proofs.seated.Seated.submit.Goals as goal

pub returns : goal.returns
returns c =
    let given : c.in_ok-events.events.items ≡ event.Submit c.args.bytes ∷ [] = search rules in
    let applied : AppliesEach meaning_of c.args.self.now.state (event.Submit c.args.bytes ∷ []) c.turn.new.state =
    rw given at c.in_ok-turn.ensures.applied in
    rw c.in_ok-turn.ensures.index (entry_taken meaning_of c.args.self.now.state c.turn.new.state (event.Submit c.args.bytes) applied)
