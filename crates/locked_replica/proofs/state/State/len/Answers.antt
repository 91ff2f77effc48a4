use Rattle.std.proofs.Common.{sym}
use Rattle.locked_replica.specs.StoredEntries.{entries_of}
use Rattle.locked_replica.proofs.Applied.{sound}
use Rattle.locked_replica.proofs.state.State.len.Goals as goal

pub returns-clause-sound : goal.returns-clause-sound
returns-clause-sound g c =
    let s = c.self.inside in
    rw (sym c.self.view_is) (sound (g.A.Application.meaning) s.core.replay s.core.keys
    (entries_of s.strings s.entries.items) c.self.invariant.0)
