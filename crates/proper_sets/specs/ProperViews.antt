-- The proper values of a replica, as contracts see them.
use Rattle.std.specs.Prelude.{◌≤◌, List, length, IsTrue}
use Rattle.std.specs.List.{list_any}
use Rattle.ledger_model.specs.declared.config.Config.{Config}
use Rattle.ledger_model.specs.Values.{Value, same_value}
use Rattle.proper_sets.specs.Propriety.{ProperSet}

-- the proper values of a replica, with its cluster's configuration
pub record ProperView : Type 0 where
  pub config : Config
  pub set : ProperSet

-- at most four values are listed, and the replica's own is among them
pub record IsSmall (own : Value) (explicit : List Value) : Type 0 where
  pub few : length explicit ≤ 4
  pub own_listed : IsTrue (list_any (same_value own) explicit)
