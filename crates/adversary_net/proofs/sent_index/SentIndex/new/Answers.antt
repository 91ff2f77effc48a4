use Rattle.std.proofs.Common.{refl, arith}
use Rattle.ledger_model.specs.Worlds.{frames_sent}
use Rattle.adversary_net.proofs.sent_index.SentIndex.new.Goals as goal

-- an empty history sent nothing
pub returns : goal.returns
unfolding frames_sent
returns c = record { places = c.new.ensures.items; counts = refl; bound = omega arith }
