-- The state of a replica's agreement at one height.
use Rattle.std.specs.Prelude.{ℕ, List, Option}
use Rattle.ledger_model.specs.declared.config.Config.{Config}
use Rattle.ledger_model.specs.declared.statement.Ack.{Ack}
use Rattle.ledger_model.specs.declared.statement.SignedReport.{SignedReport}
use Rattle.ledger_model.specs.Values.{Value}
use Rattle.proper_sets.specs.Propriety.{ProperSet}
use Rattle.tally.specs.Tallies.{Places}
use Rattle.lock_proofs.specs.LockTables.{SignedLock}

-- the state of a replica's agreement at one height
pub record InstanceView : Type 0 where
  pub config : Config
  -- the number of the replica, and the height
  pub id : ℕ
  pub height : ℕ
  -- the proper values, and the locks that are held
  pub proper : ProperSet
  pub table : List SignedLock
  -- what was read in the open phase: reports, acknowledgements, and the value of the lock that was taken
  pub reports : Places SignedReport
  pub acks : Places Ack
  pub taken : Option Value
  -- the value of the lock that was made in the open phase
  pub made : Option Value
  pub decided : Option Value
