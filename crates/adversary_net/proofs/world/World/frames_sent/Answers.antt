use Rattle.std.proofs.Common.{length, sym, ap}
use Rattle.ledger_model.specs.Worlds.{frames_sent}
use Rattle.adversary_net.proofs.world.World.frames_sent.Goals as goal

pub returns-in-Err-clause-count : goal.returns-in-Err-clause-count
unfolding frames_sent
returns-in-Err-clause-count g c = sym (ap (λ es. length (frames_sent es)) c.in-Err.ensures.no_entries)
