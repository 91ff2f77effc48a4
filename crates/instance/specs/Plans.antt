-- What an instance lets a replica send as a round opens, what it chooses, and its state afterwards.
use Rattle.std.specs.Prelude.{◌≡◌, ◌⊎◌, ℕ, ◌==◌, nat_eq, Bool, true, false, not, ◌&&◌, ◌||◌, IsTrue, MatchBool, List, [], ◌∷◌, map, take}
use Rattle.std.specs.Prelude.{filter, Option, Some, None, is_some, slice_set, replicate, if◌then◌else◌}
use Rattle.std.specs.List.{list_all}
use Rattle.std.specs.Cmp.Lexicographic.{pointwise}
use Rattle.std.specs.Option.{is_none, option_map_or}
use Rattle.ledger_model.specs.declared.config.Config.{Config}
use Rattle.ledger_model.specs.declared.statement.Ack.{Ack}
use Rattle.ledger_model.specs.declared.statement.Lock.{Lock}
use Rattle.ledger_model.specs.declared.statement.Report.{Report}
use Rattle.ledger_model.specs.declared.statement.SignedReport.{SignedReport}
use Rattle.ledger_model.specs.declared.statement.SignedStatement.{SignedStatement}
use Rattle.ledger_model.specs.declared.statement.Statement.{Statement}
use Rattle.ledger_model.specs.declared.statement.Statement.TheVariants as statement
use Rattle.ledger_model.specs.Values.{Value, same_value}
use Rattle.ledger_model.specs.Rounds.{phase_of, place_of, owner_of, quorum, ack_place, lock_place, report_place}
use Rattle.ledger_model.specs.Notes.{Has, signer_of, version_of}
use Rattle.ledger_model.specs.Rules.{ack_of}
use Rattle.ledger_model.specs.declared.version.Version.{Version}
use Rattle.ledger_model.specs.declared.version.Version.TheVariants.{One, Two}
use Rattle.ledger_model.specs.Locks.{finds, or_else}
use Rattle.ledger_model.specs.Logs.{height_of}
use Rattle.ledger_model.specs.Spelling.{frame_bytes}
use Rattle.proper_sets.specs.Propriety.{ProperSet, absorbed}
use Rattle.tally.specs.Readings.{reports_of}
use Rattle.phase_core.specs.Choices.{chosen, is_found_by, is_decided_by}
use Rattle.tally.specs.Tallies.{Places, all_read, read_of}
use Rattle.lock_proofs.specs.LockTables.{as_statement, with_lock, has_four_others}
use Rattle.ledger_model.specs.Validity.{is_quorate, is_supporting}
use Rattle.proper_sets.specs.ProperViews.{ProperView}
use Rattle.lock_proofs.specs.Tables.{values_of}
use Rattle.instance.specs.declared.round_statement.RoundStatement.{RoundStatement}
use Rattle.instance.specs.declared.round_statement.RoundStatement.TheVariants as made
use Rattle.instance.specs.Instances.{InstanceView}

-- ---- the statements

-- the replica's report of phase k
abbrev pub own_report : InstanceView → ℕ → Report
own_report row k = record {
  version = row.config.frames;
  height = row.height;
  phase = k;
  signer = row.id;
  all = row.proper.all;
  initial = row.proper.own;
  proper = row.proper.explicit;
  locked = values_of row.table;
}

-- the replica's lock on v in phase k; its proof has the reports that find v, from the lowest signers
abbrev pub own_lock : InstanceView → ℕ → Value → Lock
own_lock row k v = record {
  version = row.config.frames;
  height = row.height;
  phase = k;
  signer = row.id;
  value = v;
  proof = take (quorum row.config) (filter (λ s. finds s.report v) (all_read row.reports));
}

-- the replica's acknowledgement of the lock on v in phase k
abbrev pub own_ack_of : InstanceView → ℕ → Value → Ack
own_ack_of row k v = ack_of row.config row.id row.height k v

-- the replica's acknowledgement of the lock that was taken, if one was
abbrev pub own_acks : InstanceView → ℕ → Option Value → Option Ack
own_acks row k None = None
own_acks row k (Some v) = Some (own_ack_of row k v)

-- the acknowledgement that is sent to the owner of the phase; the owner sends none to itself
abbrev pub sent_ack : InstanceView → ℕ → Option Value → Option Statement
sent_ack row k None = None
sent_ack row k (Some v) = if owner_of row.config k == row.id then None else Some (statement.Ack (own_ack_of row k v))

-- the owner's acknowledgement of its own lock
abbrev pub unsent_ack : InstanceView → ℕ → Option Value → Option Ack
unsent_ack row k None = None
unsent_ack row k (Some v) = if owner_of row.config k == row.id then Some (own_ack_of row k v) else None

-- ---- what the replica may send as round c opens

-- a lock that the owner may make; its proof consists of reports that the instance has
pub record IsOwnLockOf (row : InstanceView) (k : ℕ) (l : Lock) : Type 0 where
  pub of_version : l.version ≡ row.config.frames
  pub of_height : l.height ≡ row.height
  pub of_phase : l.phase ≡ k
  pub own : l.signer ≡ row.id
  pub quorate : IsTrue (is_quorate row.config l)
  pub supporting : IsTrue (is_supporting l)
  pub kept : (s : SignedReport) → Has l.proof s → read_of row.reports s.report.signer ≡ Some s

-- exactly one lock if a quorum's reports find some value, and otherwise none
abbrev pub MaySendLock : InstanceView → ℕ → Option Statement → Type 0
MaySendLock row k sent =
    ((l : Lock) × (sent ≡ Some (statement.Lock l)) × IsOwnLockOf row k l)
    ⊎ ((sent ≡ None) × ((v : Value) → is_found_by row.config (reports_of (all_read row.reports)) v ≡ false))

-- what the place of the round lets the replica send
abbrev pub MaySend : InstanceView → ℕ → Option Statement → Type 0
MaySend row c sent =
    MatchBool (place_of c == report_place) (sent ≡ Some (statement.Report (own_report row (phase_of c))))
    (MatchBool (place_of c == lock_place)
    (MatchBool (owner_of row.config (phase_of c) == row.id) (MaySendLock row (phase_of c) sent) (sent ≡ None))
    (MatchBool (place_of c == ack_place) (sent ≡ sent_ack row (phase_of c) row.taken)
    (sent ≡ None)))

-- ---- the same, as tests

-- the two flags are equal
abbrev pub same_flag : Bool → Bool → Bool
same_flag true b = b
same_flag false b = not b

-- the two versions are equal
abbrev pub same_version : Version → Version → Bool
same_version One One = true
same_version One Two = false
same_version Two One = false
same_version Two Two = true

-- the two reports are equal
abbrev pub same_report : Report → Report → Bool
same_report p q =
    same_version p.version q.version && (p.height == q.height) && (p.phase == q.phase) && (p.signer == q.signer) && same_flag p.all q.all &&
    same_value p.initial q.initial
    && pointwise same_value p.proper q.proper && pointwise same_value p.locked q.locked

-- the two signed reports are equal
abbrev pub same_signed : SignedReport → SignedReport → Bool
same_signed s t = same_report s.report t.report && pointwise nat_eq s.signature t.signature

-- the instance has this report of its signer
abbrev pub is_kept : InstanceView → SignedReport → Bool
is_kept row s = option_map_or (same_signed s) (read_of row.reports s.report.signer) false

-- the owner may make the lock in phase k
abbrev pub is_own_lock : InstanceView → ℕ → Lock → Bool
is_own_lock row k l =
    same_version l.version row.config.frames && (l.height == row.height) && (l.phase == k) && (l.signer == row.id) && is_quorate row.config
    l && is_supporting l
    && list_all (is_kept row) l.proof

-- it is the replica's acknowledgement of the lock on v in phase k
abbrev pub is_own_ack : InstanceView → ℕ → Value → Ack → Bool
is_own_ack row k v a =
    same_version a.version row.config.frames && (a.height == row.height) && (a.phase == k) && (a.signer == row.id) && same_value a.value v

-- at place 1: its own report
abbrev pub may_send_report : InstanceView → ℕ → Option Statement → Bool
may_send_report row k (Some (statement.Report r)) = same_report r (own_report row k)
may_send_report row k _ = false

-- at place 2: the owner's lock, if a quorum's reports find some value
abbrev pub may_send_lock : InstanceView → ℕ → Option Statement → Bool
may_send_lock row k (Some (statement.Lock l)) = (owner_of row.config k == row.id) && is_own_lock row k l
may_send_lock row k (Some _) = false
may_send_lock row k None = not (owner_of row.config k == row.id)
    || is_none (chosen row.config (reports_of (all_read row.reports)) row.proper.own)

-- at place 3: the acknowledgement of the lock that was taken, unless the replica is the owner
abbrev pub may_send_ack : InstanceView → ℕ → Option Statement → Bool
may_send_ack row k (Some (statement.Ack a)) =
    not (owner_of row.config k == row.id) && option_map_or (λ v. is_own_ack row k v a) row.taken false
may_send_ack row k (Some _) = false
may_send_ack row k None = (owner_of row.config k == row.id) || is_none row.taken

-- what `MaySend` says of round c, as a test
unfoldable pub may_send : InstanceView → ℕ → Option Statement → Bool
may_send row c sent =
    if place_of c == report_place then may_send_report row (phase_of c) sent
    else if place_of c == lock_place then may_send_lock row (phase_of c) sent
    else if place_of c == ack_place then may_send_ack row (phase_of c) sent
    else is_none sent

-- ---- what the replica chooses

-- the value on which the owner makes its lock in phase k
abbrev pub locking_of : InstanceView → ℕ → Option Value
locking_of row k = if owner_of row.config k == row.id then chosen row.config (reports_of (all_read row.reports)) row.proper.own else None

-- the lock on that value
abbrev pub chosen_lock : InstanceView → ℕ → Option Value → Option Statement
chosen_lock row k None = None
chosen_lock row k (Some v) = Some (statement.Lock (own_lock row k v))

-- the statement that the replica sends as round c opens
unfoldable pub chosen_statement : InstanceView → ℕ → Option Statement
chosen_statement row c =
    if place_of c == report_place then Some (statement.Report (own_report row (phase_of c)))
    else if place_of c == lock_place then chosen_lock row (phase_of c) (locking_of row (phase_of c))
    else if place_of c == ack_place then sent_ack row (phase_of c) row.taken
    else None

-- the statement is the replica's own, of this height
pub record IsOwnStatement (row : InstanceView) (s : Statement) : Type 0 where
  pub version : version_of s ≡ row.config.frames
  pub signer : signer_of s ≡ row.id
  pub height : height_of s ≡ row.height

-- ---- the effects of a round end, which don't depend on what is sent

-- the effects of a round end, which don't depend on what is sent in the next round
pub record RoundEffectsView : Type 0 where
  -- the frames of the locks that are sent on
  pub sends_on : List (List ℕ)
  -- the new set of proper values, and the decided value, if the round end has them
  pub proper : Option ProperView
  pub decided : Option Value
  -- the owner's acknowledgement of its own lock, which it makes and doesn't send
  pub unsent : Option Ack

-- the value of the lock of phase k, if the acknowledgements decide it as place 3 closes
abbrev pub decides_now : InstanceView → ℕ → Option Value → Option Value
decides_now row k None = None
decides_now row k (Some v) =
    if is_decided_by row.config (all_read row.acks) k v
    then Some v else None

-- that value, unless one was decided before
abbrev pub decides_first : InstanceView → ℕ → Option Value
decides_first row k = if is_some row.decided then None else decides_now row k row.made

-- nothing is sent on, made proper or decided
abbrev pub nothing_ends : RoundEffectsView
nothing_ends = record { sends_on = []; proper = None; decided = None; unsent = None }

-- the effects as round c opens
unfoldable pub opened_effects : InstanceView → ℕ → RoundEffectsView
opened_effects row c =
    if place_of c == report_place then nothing_ends
    else if place_of c == lock_place then record nothing_ends {
      proper =
          Some (record { config = row.config; set = absorbed row.config row.id (reports_of (all_read row.reports)) row.proper });
    }
    else if place_of c == ack_place then record nothing_ends { unsent = unsent_ack row (phase_of c) row.taken }
    else record nothing_ends { sends_on = map (λ s. frame_bytes (as_statement s)) row.table; decided = decides_first row (phase_of c) }

-- ---- what the replica makes

-- the replica is mute
abbrev pub is_mute_made : RoundStatement → Bool
is_mute_made made.Mute = true
is_mute_made made.Unsent = false
is_mute_made (made.Sent f) = false

-- the replica's own statement that is sent
abbrev pub own_statement_sent : RoundStatement → List SignedStatement
own_statement_sent made.Mute = []
own_statement_sent made.Unsent = []
own_statement_sent (made.Sent f) = f ∷ []

-- an acknowledgement that is not sent has no signature
abbrev pub unsent_frames : Option Ack → List SignedStatement
unsent_frames None = []
unsent_frames (Some a) = record { statement = statement.Ack a; signature = [] } ∷ []

-- everything that is made: what is sent, and what is not
abbrev pub made_by : Option Ack → RoundStatement → List SignedStatement
made_by unsent made.Mute = []
made_by unsent made.Unsent = unsent_frames unsent
made_by unsent (made.Sent f) = f ∷ unsent_frames unsent

-- a statement that is sent is the replica's own, and has the version of the cluster's frames
abbrev pub IsOwnMade : Config → ℕ → RoundStatement → Type 0
IsOwnMade config id made.Mute = Unit {0}
IsOwnMade config id made.Unsent = Unit {0}
IsOwnMade config id (made.Sent f) = (signer_of f.statement ≡ id) × (version_of f.statement ≡ config.frames)

-- ---- the state afterwards

-- as place 1 opens, the instance forgets the phase before
abbrev pub forgotten : InstanceView → InstanceView
forgotten row = record row {
  reports = replicate row.config.replicas None;
  acks = replicate row.config.replicas None;
  taken = None;
  made =
      None;
}

-- the instance without what round c forgets
abbrev pub in_round : ℕ → InstanceView → InstanceView
in_round c row = if place_of c == report_place then forgotten row else row

-- the new set of proper values if there is one, else the old set
abbrev pub or_set : Option ProperView → ProperSet → ProperSet
or_set None old = old
or_set (Some known) old = known.set

-- the instance with the effects of the round end
abbrev pub with_ends : RoundEffectsView → InstanceView → InstanceView
with_ends e row = record row { proper = or_set e.proper row.proper; decided = or_else row.decided e.decided }

-- the places with x at r, if r's place was empty
abbrev pub placed : {X : Type 0} → Places X → ℕ → X → Places X
placed places r x = if is_none (read_of places r) then slice_set places r (Some x) else places

-- the instance with its own statement, stored as one that was read; a lock is not taken if the table has no place for it
abbrev pub with_own_statement : List ℕ → Statement → InstanceView → InstanceView
with_own_statement signature (statement.Report r) row =
    record row { reports = placed row.reports row.id (record { report = r; signature = signature }) }
with_own_statement signature (statement.Lock l) row =
    if has_four_others l.value row.table then record row { made = Some l.value }
    else record row { made = Some l.value; table = with_lock (record { lock = l; signature = signature }) row.table; taken = Some l.value }
with_own_statement signature (statement.Ack a) row = record row { acks = placed row.acks row.id a }

-- the instance with one statement of its own
abbrev pub with_own : SignedStatement → InstanceView → InstanceView
with_own s row = with_own_statement s.signature s.statement row

-- the instance with each of these statements in turn
abbrev pub with_all : List SignedStatement → InstanceView → InstanceView
with_all [] row = row
with_all (s ∷ ss) row = with_all ss (with_own s row)

-- the instance after round c opened
unfoldable pub closed : InstanceView → ℕ → RoundEffectsView → RoundStatement → InstanceView
closed row c e m = with_all (made_by e.unsent m) (with_ends e (in_round c row))
