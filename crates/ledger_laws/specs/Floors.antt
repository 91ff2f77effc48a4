-- What a floor guarantees: the heights below it stay given up, and each of them is committed.
use Rattle.ledger_model.specs.Meanings.{Meanings}
use Rattle.std.specs.Prelude.{◌≡◌, ◌↔◌, ℕ, ◌+◌, ◌<◌, ◌≤◌, true, false, List, ◌++◌, length}
use Rattle.ledger_model.specs.declared.config.Config.{Config}
use Rattle.ledger_model.specs.declared.history.Entry.{Entry}
use Rattle.ledger_model.specs.Notes.{is_retired, is_open}
use Rattle.ledger_model.specs.Logs.{log_of}
use Rattle.ledger_model.specs.Commits.{commits_of, floor_of}
use Rattle.ledger_model.specs.Rules.{Ring}
use Rattle.ledger_model.specs.Lawful.{Follows}

-- a floor never falls
abbrev pub FloorRises : Type 0
FloorRises =
    (meaning : Meanings) (config : Config) (ring : Ring) (id : ℕ) (entries more : List Entry)
    → Follows meaning config ring id (entries ++ more)
    → floor_of entries ≤ floor_of (entries ++ more)

-- a replica has retired exactly the heights below its floor
abbrev pub FloorIsTheLeast : Type 0
FloorIsTheLeast =
    (meaning : Meanings) (config : Config) (ring : Ring) (id h : ℕ) (entries : List Entry)
    → Follows meaning config ring id entries → 1 ≤ h
    → (is_retired (log_of config id h entries) ≡ true) ↔ (h < floor_of entries)

-- a floor is at most one above the last height that its replica committed
abbrev pub FloorIsCommitted : Type 0
FloorIsCommitted =
    (meaning : Meanings) (config : Config) (ring : Ring) (id : ℕ) (entries : List Entry)
    → Follows meaning config ring id entries
    → floor_of entries ≤ length (commits_of config id entries) + 1

-- a height below a floor is never open again
abbrev pub ClosedForGood : Type 0
ClosedForGood =
    (meaning : Meanings) (config : Config) (ring : Ring) (id h : ℕ) (entries more : List Entry)
    → Follows meaning config ring id (entries ++ more) → 1 ≤ h → h < floor_of entries
    → is_open (log_of config id h (entries ++ more)) ≡ false
