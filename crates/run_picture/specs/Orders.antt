-- What histories show, in the order of replicas and of their entries.
use Rattle.std.specs.Prelude.{ℕ, ◌+◌, List, [], ◌∷◌, ◌++◌, Option, Some, None, if◌then◌else◌}
use Rattle.ledger_model.specs.declared.history.Entry.{Entry}
use Rattle.ledger_model.specs.Lawful.{is_opened}

-- the round that is open after an entry, if `clock` was open before it
abbrev pub clock_after : ℕ → Entry → ℕ
clock_after clock e = if is_opened e.reply then clock + 1 else clock

-- What entries show, one after another. `shown` takes the index of an entry, the round that is open before it, and the entry.
abbrev pub shown_from : {X : Type 0} → (ℕ → ℕ → Entry → List X) → ℕ → ℕ → List Entry → List X
shown_from shown i clock [] = []
shown_from shown i clock (e ∷ es) = shown i clock e ++ shown_from shown (i + 1) (clock_after clock e) es

-- What entries show, each after those before it. `shown` takes the entries before an entry, and the entry.
abbrev pub shown_after : {X : Type 0} → (List Entry → Entry → List X) → List Entry → List Entry → List X
shown_after shown front [] = []
shown_after shown front (e ∷ es) = shown front e ++ shown_after shown (front ++ e ∷ []) es

-- what the entries of a replica show, if its history was handed in
abbrev pub shown_if : {X : Type 0} → (List Entry → List X) → Option (List Entry) → List X
shown_if shown None = []
shown_if shown (Some entries) = shown entries

-- what the entries of the replicas from r on show; `shown` takes the replica and its entries
abbrev pub shown_by : {X : Type 0} → (ℕ → List Entry → List X) → ℕ → List (Option (List Entry)) → List X
shown_by shown r [] = []
shown_by shown r (row ∷ rows) = shown_if (shown r) row ++ shown_by shown (r + 1) rows
