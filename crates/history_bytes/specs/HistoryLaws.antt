-- The laws of histories as bytes: histories are read back from their encodings, so bytes encode at most one list of histories.
-- They hold for frames of either version.
use Rattle.std.specs.Prelude.{◌≡◌, ℕ, List, Some}
use Rattle.std.specs.List.{flat_map, AllByRecursion}
use Rattle.ledger_model.specs.declared.history.History.{History}
use Rattle.ledger_model.specs.declared.version.Version.{Version}
use Rattle.history_bytes.specs.Histories.{history_bytes}
use Rattle.history_bytes.specs.HistorySpelling.{IsHistory}
use Rattle.history_bytes.specs.HistoryReading.{histories_reading}

-- the bytes encode these histories of a cluster with frames of this version, one after another
pub record SpellsHistories (version : Version) (bytes : List ℕ) (histories : List History) : Type 0 where
  pub spelled : AllByRecursion (IsHistory version) histories
  pub written : bytes ≡ flat_map history_bytes histories

-- histories are read back from their encodings
abbrev pub HistoriesSpelledAreRead : Type 0
HistoriesSpelledAreRead =
    (version : Version) (histories : List History) → AllByRecursion (IsHistory version) histories
    → histories_reading version (flat_map history_bytes histories) ≡ Some histories

-- bytes encode at most one list of histories
abbrev pub OneList : Type 0
OneList =
    (version : Version) (bytes : List ℕ) (histories others : List History) → SpellsHistories version bytes histories
    → SpellsHistories version bytes others → histories ≡ others
