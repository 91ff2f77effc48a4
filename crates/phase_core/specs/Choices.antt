-- The value that an owner locks, and the value that a lock decides, given what was read in the phase.
use Rattle.std.specs.Prelude.{ℕ, ◌+◌, ◌*◌, ◌==◌, nat_le, Bool, ◌&&◌, List, [], ◌∷◌, ◌++◌, filter, Option, Some, None, if◌then◌else◌}
use Rattle.std.specs.List.{flat_map}
use Rattle.ledger_model.specs.declared.config.Config.{Config}
use Rattle.ledger_model.specs.declared.statement.Ack.{Ack}
use Rattle.ledger_model.specs.declared.statement.Report.{Report}
use Rattle.ledger_model.specs.Values.{Value, same_value, ascending}
use Rattle.ledger_model.specs.Rounds.{quorum}
use Rattle.ledger_model.specs.Locks.{finds}
use Rattle.tally.specs.Tallies.{count_where}

-- a quorum's reports find the value, as a lock on it needs
abbrev pub is_found_by : Config → List Report → Value → Bool
is_found_by config reports v = nat_le (quorum config) (count_where (λ p. finds p v) reports)

-- the first of the values, if there is one
abbrev pub first_value : List Value → Option Value
first_value [] = None
first_value (v ∷ vs) = Some v

-- The value that an owner locks: its own initial value if a quorum's reports find it, and otherwise the least value
-- that they find among those that reports list as proper or as locked.
unfoldable pub chosen : Config → List Report → Value → Option Value
chosen config reports own =
    if is_found_by config reports own then Some own
    else first_value (filter (is_found_by config reports) (ascending (flat_map (λ p. p.proper ++ p.locked) reports)))

-- at least 2t+1 acknowledgements are of a lock of phase k on the value
unfoldable pub is_decided_by : Config → List Ack → ℕ → Value → Bool
is_decided_by config acks k v = nat_le (2 * config.faults + 1) (count_where (λ a. (a.phase == k) && same_value v a.value) acks)
