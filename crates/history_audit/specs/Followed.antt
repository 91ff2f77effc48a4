-- What following a history finds.
use Rattle.ledger_model.specs.Meanings.{Meanings}
use Rattle.std.specs.Prelude.{◌≡◌, ◌⊎◌, [], ℕ, ◌<◌, ◌≤◌, nat_lt, if◌then◌else◌, List, length, Some, Result, Ok, Err, ⊤}
use Rattle.ledger_model.specs.declared.config.Config.{Config}
use Rattle.ledger_model.specs.declared.history.History.{History}
use Rattle.ledger_model.specs.Values.{Value}
use Rattle.ledger_model.specs.Rules.{Ring}
use Rattle.ledger_model.specs.Commits.{commits_of}
use Rattle.ledger_model.specs.Lawful.{Replay}
use Rattle.ledger_model.specs.Groups.{history_of}
use Rattle.ledger_model.specs.Audits.{AreReplays, IsFirstBreak}
use Rattle.history_follower.specs.Followers.{FollowerView, StopsAt}
use Rattle.history_audit.specs.declared.fault.AuditFault.{AuditFault}
use Rattle.history_audit.specs.declared.fault.AuditFault.TheVariants as fault

-- what following a whole history gives: a follower with the blocks that the history commits, or the first entry that doesn't
-- continue the replay
abbrev pub FollowedTo : Meanings → Config → Ring → History → Result FollowerView AuditFault → Type 0
FollowedTo meaning config ring m (Ok follower) =
    Replay meaning config ring m.replica m.entries × (follower.replay.commits ≡ commits_of config m.replica m.entries)
FollowedTo meaning config ring m (Err (fault.NotReplay r i)) = (r ≡ m.replica) × StopsAt meaning config ring m.replica m.entries i
FollowedTo meaning config ring m (Err fault.NoMemory) = ⊤
FollowedTo meaning config ring m (Err fault.Count) = ⊥
FollowedTo meaning config ring m (Err (fault.Unsent reader i signer)) = ⊥

-- one more history was followed: the list is the longer of the one so far and what the history commits
abbrev pub FollowsOne : Meanings → Config → Ring → History → List Value → Result (Unit {0}) AuditFault → List Value → Type 0
FollowsOne meaning config ring m old (Ok _) new = Replay meaning config ring m.replica m.entries
    × (new ≡ (if nat_lt (length old) (length (commits_of config m.replica m.entries)) then commits_of config m.replica m.entries else old))
FollowsOne meaning config ring m old (Err (fault.NotReplay r i)) new = (r ≡ m.replica) × StopsAt meaning config ring m.replica m.entries i
FollowsOne meaning config ring m old (Err fault.NoMemory) new = ⊤
FollowsOne meaning config ring m old (Err fault.Count) new = ⊥
FollowsOne meaning config ring m old (Err (fault.Unsent reader i signer)) new = ⊥

-- the batches are those that one of these histories commits, and no other commits more
pub record IsLongest (config : Config) (histories : List History) (blocks : List Value) : Type 0 where
  pub some : (r : ℕ) × ((m : History) × ((history_of histories r ≡ Some m) × (blocks ≡ commits_of config r m.entries)))
  pub each : (r : ℕ) (m : History) → history_of histories r ≡ Some m → length (commits_of config r m.entries) ≤ length blocks

-- what following all histories answers
abbrev pub FollowsAll : Meanings → Config → Ring → List History → Result (List Value) AuditFault → Type 0
FollowsAll meaning config ring histories (Ok blocks) = AreReplays meaning config ring histories × IsLongest config histories blocks
FollowsAll meaning config ring histories (Err (fault.NotReplay r i)) = IsFirstBreak meaning config ring histories r i
FollowsAll meaning config ring histories (Err fault.NoMemory) = ⊤
FollowsAll meaning config ring histories (Err fault.Count) = ⊥
FollowsAll meaning config ring histories (Err (fault.Unsent reader i signer)) = ⊥

-- the histories of the replicas below n are replays, and the batches are the longest list that one of them commits
pub record LongestBelow (meaning : Meanings) (config : Config) (ring : Ring) (histories : List History) (n : ℕ)
    (blocks : List Value) : Type 0 where
  pub replays : (q : ℕ) (m : History) → q < n → history_of histories q ≡ Some m → Replay meaning config ring q m.entries
  pub some : (blocks ≡ []) ⊎ ((r : ℕ) × ((m : History) × ((history_of histories r ≡ Some m) × (blocks ≡ commits_of config r m.entries))))
  pub each : (q : ℕ) (m : History) → q < n → history_of histories q ≡ Some m → length (commits_of config q m.entries) ≤ length blocks
