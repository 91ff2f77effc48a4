use Rattle.std.proofs.Common.{sym}
use Rattle.replica_core.proofs.Placing.{each_ignored, each_checked}
use Rattle.locked_replica.specs.StoredEntries.{entries_of}
use Rattle.locked_replica.proofs.state.State.cause_before_signature.Goals as goal

pub returns-clause-ignored : goal.returns-clause-ignored
returns-clause-ignored g c =
    let held = c.self.inside.core.replay in
    let entries = entries_of c.self.inside.strings c.self.inside.entries.items in
    rw (sym c.self.view_is)
    (each_ignored held.config held.id entries c.args.frame.now.statement c.cause_before_signature.result
    (c.cause_before_signature.ensures entries c.self.invariant.0.matches))

pub returns-clause-checked : goal.returns-clause-checked
returns-clause-checked g c =
    let held = c.self.inside.core.replay in
    let entries = entries_of c.self.inside.strings c.self.inside.entries.items in
    rw (sym c.self.view_is)
    (each_checked held.config held.id entries c.args.frame.now c.cause_before_signature.result
    (c.cause_before_signature.ensures entries c.self.invariant.0.matches))
