-- What a replica answers to a frame before it checks the frame's signature.
use Rattle.std.specs.Prelude.{ℕ, List, [], Result}
use Rattle.ledger_model.specs.declared.config.Config.{Config}
use Rattle.ledger_model.specs.declared.history.Entry.{Entry}
use Rattle.ledger_model.specs.declared.reply.Ignored.{Ignored}
use Rattle.ledger_model.specs.declared.statement.Statement.{Statement}
use Rattle.ledger_model.specs.Logs.{log_of, height_of}
use Rattle.ledger_model.specs.Rules.{first_of, causes_before_signature}

-- the first cause before the signature that applies after these entries, or Ok
abbrev pub answer_before_signature : Config → ℕ → List Entry → Statement → Result (Unit {0}) Ignored
answer_before_signature config id entries s =
    first_of (causes_before_signature config (log_of config id (height_of s) entries) s [])
