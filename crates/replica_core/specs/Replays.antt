-- What a replica derives from its history, and when it matches a history.
use Rattle.ledger_model.specs.Meanings.{Meanings}
use Rattle.std.specs.Prelude.{◌≡◌, ℕ, ◌+◌, ◌<◌, ◌≤◌, Bool, true, false, is_some, List, [], length, Some, None}
use Rattle.ledger_model.specs.Limits.{max_height, last_round}
use Rattle.ledger_model.specs.declared.config.Config.{Config}
use Rattle.ledger_model.specs.declared.history.Entry.{Entry}
use Rattle.ledger_model.specs.Values.{Value}
use Rattle.ledger_model.specs.Applications.{Machine, run}
use Rattle.ledger_model.specs.Notes.{clock_of, is_open}
use Rattle.ledger_model.specs.Logs.{log_of, is_mute}
use Rattle.ledger_model.specs.Rules.{Ring}
use Rattle.ledger_model.specs.Commits.{executed, decided_at, commits_of, floor_of, pool_of}
use Rattle.ledger_model.specs.Lawful.{clock_at}
use Rattle.instance.specs.Instances.{InstanceView}
use Rattle.instance.specs.Matching.{MatchesLog, only_rounds}
use Rattle.height_row.specs.Heights.{row_at, AreAscending}

-- the state of a replica's core: the floor, the open heights in ascending order, the pool, the committed batches from height 1 on,
-- the application's machine, the number of the open round, and whether the replica is mute
pub record ReplayView : Type 0 where
  pub config : Config
  pub id : ℕ
  pub ring : Ring
  pub floor : ℕ
  pub rows : List InstanceView
  pub pool : Value
  pub commits : List Value
  pub machine : Machine
  pub clock : ℕ
  pub mute : Bool

-- the state before the first event
abbrev pub new_replay : Meanings → Config → ℕ → Ring → ReplayView
new_replay meaning config id ring = record {
  config = config;
  id = id;
  ring = ring;
  floor = 1;
  rows = [];
  pool = [];
  commits = [];
  machine = run meaning config.kind [];
  clock = 0;
  mute = false;
}

-- the open height belongs to this replica, and is one that may be opened
pub record IsOwnRow (held : ReplayView) (h : ℕ) (row : InstanceView) : Type 0 where
  pub config : row.config ≡ held.config
  pub id : row.id ≡ held.id
  pub height : row.height ≡ h
  pub low : h ≤ max_height

-- each open height belongs to the replica's cluster
abbrev pub IsOneCluster : ReplayView → Type 0
IsOneCluster held = (h : ℕ) (row : InstanceView) → row_at held.rows h ≡ Some row → row.config ≡ held.config

-- the state is within its limits
pub record IsWithinLimits (held : ReplayView) : Type 0 where
  pub member : held.id < held.config.replicas
  pub own : (h : ℕ) (row : InstanceView) → row_at held.rows h ≡ Some row → IsOwnRow held h row
  pub ascend : AreAscending held.rows
  pub few : length held.commits ≤ max_height
  pub early : held.clock ≤ last_round

-- each block that was run had been decided
abbrev pub AreDecided : Config → ℕ → List Entry → Type 0
AreDecided config id entries = (h : ℕ) → 1 ≤ h → h < 1 + executed entries → is_some (decided_at config id entries h) ≡ true

-- the state is what the history makes of it
pub record MatchesHistory (meaning : Meanings) (held : ReplayView) (entries : List Entry) : Type 0 where
  pub clock : clock_at entries ≡ held.clock
  pub clocks : (h : ℕ) → clock_of (log_of held.config held.id h entries) ≡ held.clock
  -- each open height matches its log; every other log from the floor on contains only rounds, and no height below the floor is open
  pub opened : (h : ℕ) (row : InstanceView) → row_at held.rows h ≡ Some row
      → MatchesLog held.ring row (log_of held.config held.id h entries)
  pub unopened : (h : ℕ) → held.floor ≤ h → row_at held.rows h ≡ None → only_rounds (log_of held.config held.id h entries) ≡ true
  pub retired : (h : ℕ) → h < held.floor → is_open (log_of held.config held.id h entries) ≡ false
  pub floor : floor_of entries ≡ held.floor
  pub low : held.floor ≤ length held.commits + 1
  pub pool : pool_of meaning held.config held.id entries ≡ held.pool
  pub commits : commits_of held.config held.id entries ≡ held.commits
  -- the machine is the application run alone on the committed batches
  pub machine : held.machine ≡ run meaning held.config.kind held.commits
  pub blocks : AreDecided held.config held.id entries
  pub mute : is_mute entries ≡ held.mute
