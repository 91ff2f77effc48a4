-- What `abft cluster` and `abft serve` write.
use Rattle.ledger_model.specs.Meanings.{Meanings}
use Rattle.std.specs.Prelude.{◌≡◌, ◌⊎◌, ℕ, ◌+◌, ⊤, List, [], ◌∷◌, ◌++◌, length, Option, Result, Ok, Err, MatchResult}
use Rattle.std.specs.Io.KnownBytes.{Appends}
use Rattle.std.specs.List.{flat_map}
use Rattle.ledger_model.specs.declared.config.Config.{Config}
use Rattle.ledger_model.specs.declared.history.History.{History}
use Rattle.ledger_model.specs.Commits.{commits_of}
use Rattle.ledger_model.specs.Lawful.{Replay}
use Rattle.ledger_model.specs.Rules.{Ring}
use Rattle.ledger_model.specs.Values.{Value}
use Rattle.byte_streams.specs.Writing.{AppendsSome}
use Rattle.cluster_setup.specs.Keys.{ring_of}
use Rattle.history_bytes.specs.Histories.{history_bytes}
use Rattle.history_audit.specs.Findings.{IsFinding}
use Rattle.history_audit.specs.declared.fault.AuditFault.{AuditFault}
use Rattle.history_audit.specs.declared.fault.AuditFault.TheVariants as fault
use Rattle.printed_lines.specs.AuditLines.{finding_status, finding_text}
use Rattle.cluster_setup.specs.declared.cluster_settings.ClusterSettings.{ClusterSettings}
use Rattle.byte_streams.specs.declared.program_fault.ProgramFault.{ProgramFault}
use Rattle.cluster_service.specs.HistoriesFiles.{Saves}
use Rattle.cluster_service.specs.Lines.{commit_lines}
use Rattle.cluster_service.specs.RunFaults.{IsRunFault}

-- ---- what a cluster leaves

-- the history has the replica's number, and is a replay under the cluster's configuration and public keys, which committed this number of
-- blocks
pub record IsTaken (meaning : Meanings) (config : Config) (ring : Ring) (replica : ℕ) (m : History) (height : ℕ) : Type 0 where
  pub own : m.replica ≡ replica
  pub replay : Replay meaning config ring replica m.entries
  pub blocks : height ≡ length (commits_of config replica m.entries)

-- the histories of replicas, from this number on, and the number of blocks that each had committed
abbrev pub AreTaken : Meanings → Config → Ring → ℕ → List History → List ℕ → Type 0
AreTaken meaning config ring first [] [] = ⊤
AreTaken meaning config ring first (m ∷ ms) (h ∷ hs) = IsTaken meaning config ring first m h
    × AreTaken meaning config ring (first + 1) ms hs
AreTaken meaning config ring first _ _ = ⊥

-- The histories of all replicas are a quorum's, and replays. So an audit of them finds their ledger, or a statement that its signer
-- didn't send.
abbrev pub IsLedgerOrUnsent : Result (List Value) AuditFault → Type 0
IsLedgerOrUnsent (Ok ledger) = ⊤
IsLedgerOrUnsent (Err (fault.Unsent reader i signer)) = ⊤
IsLedgerOrUnsent (Err _) = ⊥

-- The lines of replicas that committed these numbers of blocks were written, and then what the audit of these histories finds, which
-- gives the exit status. After a fault a prefix of those lines was written, or of all.
abbrev pub WritesFinding : Meanings → {E : Type 0} → Config → Ring → List History → List ℕ → Result ℕ E → Option (List ℕ) → Option (List ℕ)
    → Type 0
WritesFinding meaning config ring histories heights result before after = MatchResult result
    (λ status. (finding : Result (List Value) AuditFault) × (IsFinding meaning config ring histories finding
    × ((status ≡ finding_status finding) × Appends before after (commit_lines 0 heights ++ finding_text finding))))
    (λ _. AppendsSome before after (commit_lines 0 heights)
    ⊎ ((finding : Result (List Value) AuditFault) × (IsFinding meaning config ring histories finding
    × AppendsSome before after (commit_lines 0 heights ++ finding_text finding))))

-- There is one line for each replica of the cluster, by number, with the blocks that it committed; then comes what the audit of their
-- histories finds, which gives the exit status. The file has these histories.
pub record Reports (meaning : Meanings) (s : ClusterSettings) (status : ℕ) (lines file : List ℕ) : Type 0 where
  pub histories : List History
  pub heights : List ℕ
  pub each : length heights ≡ s.cluster.config.replicas
  pub taken : AreTaken meaning s.cluster.config (ring_of s.cluster) 0 histories heights
  pub finding : Result (List Value) AuditFault
  pub found : IsFinding meaning s.cluster.config (ring_of s.cluster) histories finding
  pub sound : IsLedgerOrUnsent finding
  pub ends : status ≡ finding_status finding
  pub shows : lines ≡ commit_lines 0 heights ++ finding_text finding
  pub saves : file ≡ flat_map history_bytes histories

-- There are the lines of the replicas alone. The file has their histories.
pub record ReportsCommits (meaning : Meanings) (s : ClusterSettings) (lines file : List ℕ) : Type 0 where
  pub histories : List History
  pub heights : List ℕ
  pub each : length heights ≡ s.cluster.config.replicas
  pub taken : AreTaken meaning s.cluster.config (ring_of s.cluster) 0 histories heights
  pub shows : lines ≡ commit_lines 0 heights
  pub saves : file ≡ flat_map history_bytes histories

-- what a cluster that was run to its end has written, if a fault came then: prefixes of the lines of its replicas, or of all
abbrev pub ReportsEnd : Meanings → ClusterSettings → List ℕ → List ℕ → Type 0
ReportsEnd meaning s lines file = ReportsCommits meaning s lines file ⊎ ((status : ℕ) × Reports meaning s status lines file)

-- nothing
abbrev pub ReportsNothing : List ℕ → List ℕ → Type 0
ReportsNothing lines file = (lines ≡ []) × (file ≡ [])

-- what a cluster that this fault ended has written prefixes of: nothing only if it was not run to its end
abbrev pub ReportsSome : Meanings → ClusterSettings → ProgramFault → List ℕ → List ℕ → Type 0
ReportsSome meaning s fault lines file = (IsRunFault fault × ReportsNothing lines file) ⊎ ReportsEnd meaning s lines file

-- Such lines were written, and such bytes into the file. After a fault, prefixes of others were: of the file's bytes only if the fault is
-- the file's own.
abbrev pub WritesSuch : {A : Type 0} → Result A ProgramFault → (A → List ℕ → List ℕ → Type 0) → (ProgramFault → List ℕ → List ℕ → Type 0)
    → Option (List ℕ) → Option (List ℕ) → Option (List ℕ) → Option (List ℕ) → Type 0
WritesSuch result Whole Part before after empty full = MatchResult result
    (λ status. (lines : List ℕ) × ((file : List ℕ) × (Whole status lines file × (Appends before after lines × Appends empty full file))))
    (λ fault. (lines : List ℕ)
    × ((file : List ℕ) × (Part fault lines file × (AppendsSome before after lines × Saves fault empty full file))))
