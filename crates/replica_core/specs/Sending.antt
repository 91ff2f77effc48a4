-- The frames that a replica sends as a round opens, by how each height closes its round.
use Rattle.std.specs.Prelude.{List, map, ◌++◌}
use Rattle.ledger_model.specs.declared.config.Config.{Config}
use Rattle.ledger_model.specs.declared.reply.Sent.{Sent}
use Rattle.instance.specs.Plans.{own_statement_sent}
use Rattle.height_row.specs.declared.round_closing.RoundClosing.{RoundClosing}
use Rattle.replica_core.specs.RoundEnds.{sent_own, sent_on}

-- the frames of one height: its own statement, and the locks that it sends on
abbrev pub frames_of_closing : Config → RoundClosing → List Sent
frames_of_closing config closing = map (sent_own config) (own_statement_sent closing.made) ++ map sent_on closing.ending.sends_on
