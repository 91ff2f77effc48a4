-- What a replica's core returns about itself: its blocks by height, its application, and what its floor says of a history.
use Rattle.ledger_model.specs.Meanings.{Meanings}
use Rattle.std.specs.Prelude.{◌≡◌, ℕ, ◌-◌, ◌==◌, ◌<◌, Bool, false, ◌&&◌, List, length, map, filter, Option, None, slice_get}
use Rattle.std.specs.Prelude.{if◌then◌else◌}
use Rattle.std.specs.Option.{is_none}
use Rattle.std.specs.List.{range_with_len}
use Rattle.ledger_model.specs.declared.config.AppKind.{AppKind}
use Rattle.ledger_model.specs.Values.{Value}
use Rattle.ledger_model.specs.Applications.{hash_of}
use Rattle.ledger_model.specs.declared.config.Config.{Config}
use Rattle.ledger_model.specs.declared.history.Entry.{Entry}
use Rattle.ledger_model.specs.Notes.{is_open}
use Rattle.ledger_model.specs.Logs.{log_of}
use Rattle.ledger_model.specs.Limits.{max_height}
use Rattle.ledger_model.specs.Commits.{decided_at}
use Rattle.instance.specs.Instances.{InstanceView}
use Rattle.abci.specs.declared.info.Info.{Info}

-- the committed batch of a height; None at height 0 and above the committed height
abbrev pub block_at : List Value → ℕ → Option Value
block_at commits h = if h == 0 then None else slice_get commits (h - 1)

-- what the application returns for Info after it ran alone on the batches
abbrev pub info_reply : Meanings → AppKind → List Value → Info
info_reply meaning kind batches = record { height = length batches; hash = hash_of meaning kind batches }

-- no height below the floor is open after these entries
abbrev pub AreClosed : Config → ℕ → List Entry → ℕ → Type 0
AreClosed config id entries floor = (h : ℕ) → h < floor → is_open (log_of config id h entries) ≡ false

-- ---- the open heights at which nothing is decided

-- those of these rows
abbrev pub undecided_in : List InstanceView → List ℕ
undecided_in rows = map (λ row. row.height) (filter (λ row. is_none row.decided) rows)

-- the first n heights
unfoldable pub heights_up_to : ℕ → List ℕ
heights_up_to n = range_with_len 1 n

-- after these entries the height is open, and nothing is decided there
abbrev pub is_undecided : Config → ℕ → List Entry → ℕ → Bool
is_undecided config id entries h = is_open (log_of config id h entries) && is_none (decided_at config id entries h)

-- those of a history
unfoldable pub undecided_heights : Config → ℕ → List Entry → List ℕ
undecided_heights config id entries = filter (is_undecided config id entries) (heights_up_to max_height)
