-- What `abft sign` signs, and the frame that it makes.
use Rattle.std.specs.Prelude.{false, [], ◌∷◌}
use Rattle.ledger_model.specs.declared.statement.Statement.{Statement}
use Rattle.ledger_model.specs.declared.statement.Statement.TheVariants as statement
use Rattle.ledger_model.specs.declared.statement.SignedStatement.{SignedStatement}
use Rattle.ledger_model.specs.Spelling.{statement_bytes}
use Rattle.key_ring.specs.Signers.{signed_with}
use Rattle.cluster_setup.specs.Keys.{secret_of}
use Rattle.cluster_setup.specs.declared.sign_settings.SignSettings.{SignSettings}
use Rattle.cluster_setup.specs.declared.sign_settings.What.{What}
use Rattle.cluster_setup.specs.declared.sign_settings.What.TheVariants.{Report, Ack}

-- A report of a replica that proposed the value and has read nothing, or an acknowledgement of a lock on it. Its version is that of
-- the cluster's frames.
abbrev pub said_of : What → SignSettings → Statement
said_of Report s = statement.Report (record {
  version = s.cluster.config.frames;
  height = s.height;
  phase = s.phase;
  signer = s.replica;
  all = false;
  initial = s.value ∷ [];
  proper = (s.value ∷ []) ∷ [];
  locked = [];
})
said_of Ack s = statement.Ack (record {
  version = s.cluster.config.frames;
  height = s.height;
  phase = s.phase;
  signer = s.replica;
  value =
      s.value ∷ [];
})

-- the statement of the settings
abbrev pub said : SignSettings → Statement
said s = said_of s.what s

-- the statement, signed with leaf 0 of the replica's key pair
abbrev pub signed : SignSettings → SignedStatement
signed s = record { statement = said s; signature = signed_with (secret_of s.cluster s.replica) 0 (statement_bytes (said s)) }
