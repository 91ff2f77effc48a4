-- Absorbing the reports of one phase after another gives what the log defines as proper.
use Rattle.std.specs.Prelude.{◌≡◌, ℕ, ◌+◌, ◌<◌, ◌≤◌, List}
use Rattle.ledger_model.specs.declared.config.Config.{Config}
use Rattle.ledger_model.specs.declared.statement.Report.{Report}
use Rattle.ledger_model.specs.Values.{Value}
use Rattle.ledger_model.specs.Notes.{Note}
use Rattle.ledger_model.specs.Proper.{is_all_proper, proper_values}
use Rattle.proper_sets.specs.Propriety.{ProperSet, only_own, absorbed}
use Rattle.tally.specs.Readings.{AreReadIn}

-- the values that are proper for replica id by its log as phase k opens
abbrev pub proper_at : Config → ℕ → List Note → ℕ → Value → ProperSet
proper_at config id log k own = record { own = own; all = is_all_proper config id log k own; explicit = proper_values config id log k own }

-- as the first phase opens, only the replica's own initial value is proper
abbrev pub BeginsWithOwn : Type 0
BeginsWithOwn = (config : Config) (id : ℕ) (log : List Note) (own : Value) → proper_at config id log 1 own ≡ only_own own

-- the reports that were read in a phase lead from what is proper as it opens to what is proper as the next one opens
abbrev pub AbsorbsAPhase : Type 0
AbsorbsAPhase =
    (config : Config) (id : ℕ) (log : List Note) (k : ℕ) (own : Value) (reports : List Report)
    → id < config.replicas → 1 ≤ k → AreReadIn config log k reports
    → absorbed config id reports (proper_at config id log k own) ≡ proper_at config id log (k + 1) own
