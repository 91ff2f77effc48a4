use Rattle.std.proofs.Common.{rules}
use Rattle.adversary_net.proofs.SentPlaces.{indexed_rises}
use Rattle.adversary_net.proofs.correct.CorrectReplica.frame.Goals as goal

pub place-requires : goal.place-requires
place-requires g c =
    let s = c.self.inside in
    record { rising = indexed_rises s.sent.sending.items s.sent.total s.state.entries c.self.invariant.indexed }

pub returns-in_err-entry : goal.returns-in_err-entry
returns-in_err-entry g c = search rules

pub returns : goal.returns
returns g c = search rules
