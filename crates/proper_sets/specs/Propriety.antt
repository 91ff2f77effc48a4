-- Which values are proper for a replica, given the reports that it read in each phase.
use Rattle.std.specs.Prelude.{ℕ, ◌*◌, ◌==◌, nat_le, nat_lt, Bool, false, not, ◌&&◌, ◌||◌, List, [], ◌∷◌, ◌++◌, map, filter, length}
use Rattle.std.specs.List.{list_any, list_all, flat_map}
use Rattle.ledger_model.specs.declared.config.Config.{Config}
use Rattle.ledger_model.specs.declared.statement.Report.{Report}
use Rattle.ledger_model.specs.Values.{Value, same_value}
use Rattle.ledger_model.specs.Locks.{names}
use Rattle.ledger_model.specs.Proper.{listed_by_other, cut}
use Rattle.tally.specs.Tallies.{count_where}

-- the number of reports by other replicas than id that pass the test
abbrev pub others_where : ℕ → (Report → Bool) → List Report → ℕ
others_where id test reports = count_where (λ p. not (p.signer == id) && test p) reports

-- more than t others name the value
abbrev pub is_named_by : Config → ℕ → List Report → Value → Bool
is_named_by config id reports v = nat_lt config.faults (others_where id (λ p. names p v) reports)

-- more than t others report that every value is proper
abbrev pub are_all_named_by : Config → ℕ → List Report → Bool
are_all_named_by config id reports = nat_lt config.faults (others_where id (λ p. p.all) reports)

-- the initial values that are known: the replica's own, and those that others report
abbrev pub initials : ℕ → Value → List Report → List Value
initials id own reports = own ∷ map (λ p. p.initial) (filter (λ p. not (p.signer == id)) reports)

-- more than 2t initial values are known, and none of them is that of more than t replicas
abbrev pub is_split_among : Config → List Value → Bool
is_split_among config values =
    nat_lt (2 * config.faults) (length values) && list_all (λ v. nat_le (count_where (same_value v) values) config.faults) values

-- The proper values of a replica: its own initial value, whether all are proper, and those that are proper by name.
pub record ProperSet : Type 0 where
  pub own : Value
  pub all : Bool
  pub explicit : List Value

-- before the first phase, only the replica's own initial value is proper
abbrev pub only_own : Value → ProperSet
only_own own = record { own = own; all = false; explicit = own ∷ [] }

-- the value is proper: all values are, or it is by name
abbrev pub is_proper : ProperSet → Value → Bool
is_proper proper v = proper.all || list_any (same_value v) proper.explicit

-- the values that more than t others name and that one of them lists
abbrev pub named_values : Config → ℕ → List Report → List Value
named_values config id reports = filter (is_named_by config id reports) (flat_map (listed_by_other id) reports)

-- the proper values of replica id after it absorbed the reports of one phase
unfoldable pub absorbed : Config → ℕ → List Report → ProperSet → ProperSet
absorbed config id reports proper = record {
  own = proper.own;
  all = proper.all || are_all_named_by config id reports || is_split_among config (initials id proper.own reports);
  explicit = cut proper.own (proper.explicit ++ named_values config id reports);
}
