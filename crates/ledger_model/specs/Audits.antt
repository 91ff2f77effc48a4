-- What an audit finds in histories that were handed in: too few of them, one that isn't a replay, a statement that a
-- replica accepted and its signer never sent, or none of these. It needs no order between replicas: "before" is
-- "anywhere in the signer's history".
use Rattle.ledger_model.specs.Meanings.{Meanings}
use Rattle.std.specs.Prelude.{◌≡◌, ℕ, ◌+◌, ◌<◌, ◌==◌, nat_lt, nat_le, Bool, true, false, not, ◌&&◌, ◌||◌, IsTrue, List, [], ◌∷◌, ◌++◌}
use Rattle.std.specs.Prelude.{map, take, filter, length, slice_get, Option, Some, None, Ok, if◌then◌else◌}
use Rattle.std.specs.List.{filter_map, list_any, list_all}
use Rattle.ledger_model.specs.declared.config.Config.{Config}
use Rattle.ledger_model.specs.declared.event.Event.{Event}
use Rattle.ledger_model.specs.declared.event.Event.TheVariants as event
use Rattle.ledger_model.specs.declared.history.Entry.{Entry}
use Rattle.ledger_model.specs.declared.history.History.{History}
use Rattle.ledger_model.specs.declared.reply.Reply.{Reply}
use Rattle.ledger_model.specs.declared.reply.Reply.TheVariants as reply
use Rattle.ledger_model.specs.declared.statement.SignedStatement.{SignedStatement}
use Rattle.ledger_model.specs.declared.statement.Statement.{Statement}
use Rattle.ledger_model.specs.declared.statement.Statement.TheVariants as statement
use Rattle.ledger_model.specs.Values.{Value, same_bytes}
use Rattle.ledger_model.specs.Rounds.{place_of, release_place}
use Rattle.ledger_model.specs.Notes.{Has, signer_of}
use Rattle.ledger_model.specs.Spelling.{statement_bytes}
use Rattle.ledger_model.specs.Reading.{reading}
use Rattle.ledger_model.specs.Rules.{Ring}
use Rattle.ledger_model.specs.Lawful.{Replay, is_opened}
use Rattle.ledger_model.specs.Groups.{history_of}
use Rattle.ledger_model.specs.Pools.{is_among}
use Rattle.ledger_model.specs.Worlds.{IsLedger}

-- ---- the histories that were handed in

-- no number occurs twice
abbrev pub all_differ : List ℕ → Bool
all_differ [] = true
all_differ (x ∷ xs) = not (list_any (λ y. y == x) xs) && all_differ xs

-- the histories are of different replicas of the cluster, and at most t replicas have none
abbrev pub are_of_a_quorum : Config → List History → Bool
are_of_a_quorum config histories =
    nat_le config.replicas (length histories + config.faults)
    && list_all (λ (m : History). nat_lt m.replica config.replicas) histories
    && all_differ (map (λ (m : History). m.replica) histories)

-- each history is a replay
abbrev pub AreReplays : Meanings → Config → Ring → List History → Type 0
AreReplays meaning config ring histories = (r : ℕ) (m : History) → history_of histories r ≡ Some m → Replay meaning config ring r m.entries

-- replica r's entry i is the first that isn't lawful after those before it, or sends something that isn't signed
pub record BreaksAt (meaning : Meanings) (config : Config) (ring : Ring) (histories : List History) (r i : ℕ) : Type 0 where
  pub history : History
  pub of : history_of histories r ≡ Some history
  pub inside : i < length history.entries
  pub before : Replay meaning config ring r (take i history.entries)
  pub broken : Replay meaning config ring r (take (i + 1) history.entries) → ⊥

-- r is the least replica whose history isn't a replay, and its entry i is the first that isn't lawful after those before it
pub record IsFirstBreak (meaning : Meanings) (config : Config) (ring : Ring) (histories : List History) (r i : ℕ) : Type 0 where
  pub breaks : BreaksAt meaning config ring histories r i
  pub least : (q : ℕ) (m : History) → q < r → history_of histories q ≡ Some m → Replay meaning config ring q m.entries

-- ---- what the histories send, and what they accept

-- the statements that a reply sends as the replica's own; `clock` is the round that was open before. In a lock-release round a
-- replica sends the locks on that it holds, and makes nothing.
abbrev pub sends : ℕ → Reply → List Statement
sends clock (reply.RoundEnded (Ok ended)) =
    if place_of (clock + 1) == release_place then []
    else map (λ s. s.statement) (filter_map (λ f. reading f.frame) ended.frames)
sends clock _ = []

-- the statements of its own that a replica sends in these entries, before which the open round is `clock`
abbrev pub sent_from : ℕ → List Entry → List Statement
sent_from clock [] = []
sent_from clock (e ∷ es) = sends clock e.reply ++ sent_from (if is_opened e.reply then clock + 1 else clock) es

-- the encoded statements of its own that the replica sent
unfoldable pub own_sent : List Entry → List (List ℕ)
own_sent entries = map statement_bytes (sent_from 0 entries)

-- the statement, and each report in its proof
abbrev pub statements_in : Statement → List Statement
statements_in (statement.Lock l) = statement.Lock l ∷ map (λ p. statement.Report p.report) l.proof
statements_in (statement.Report r) = statement.Report r ∷ []
statements_in (statement.Ack a) = statement.Ack a ∷ []

-- the statements that an entry accepts: the delivered one, and each report in its proof
abbrev pub accepts : Event → Reply → List Statement
accepts (event.Deliver bytes) (reply.Delivered (Ok _)) = within (reading bytes)
  where
    within : Option SignedStatement → List Statement
    within None = []
    within (Some s) = statements_in s.statement
accepts _ _ = []

-- the history was handed in, and doesn't send the statement with these bytes
abbrev pub lacks : Option History → List ℕ → Bool
lacks None bytes = false
lacks (Some m) bytes = not (is_among (own_sent m.entries) bytes)

-- its signer's history was handed in, and doesn't send the statement
abbrev pub is_unsent : List History → Statement → Bool
is_unsent histories s = lacks (history_of histories (signer_of s)) (statement_bytes s)

-- the signers whose statements the entry accepts though their histories don't send them
unfoldable pub unsent_in : List History → Entry → List ℕ
unsent_in histories e = map signer_of (filter (is_unsent histories) (accepts e.event e.reply))

-- entry i of the reader accepts a statement of the signer that the signer's history doesn't send
pub record IsUnsent (histories : List History) (reader i signer : ℕ) : Type 0 where
  pub history : History
  pub of : history_of histories reader ≡ Some history
  pub entry : Entry
  pub at : slice_get history.entries i ≡ Some entry
  pub unsent : Has (unsent_in histories entry) signer

-- the first triple is at most the second, in lexicographic order
abbrev pub is_not_after : ℕ → ℕ → ℕ → ℕ → ℕ → ℕ → Bool
is_not_after r i x q j y = nat_lt r q || ((r == q) && (nat_lt i j || ((i == j) && nat_le x y)))

-- the least reader that accepts such a statement, its first such entry, and the least of the signers there
pub record IsFirstUnsent (histories : List History) (reader i signer : ℕ) : Type 0 where
  pub is : IsUnsent histories reader i signer
  pub least : (q j y : ℕ) → IsUnsent histories q j y → IsTrue (is_not_after reader i signer q j y)

-- each statement that these histories accept was sent by its signer, if the signer's history was handed in
abbrev pub NothingUnsent : List History → Type 0
NothingUnsent histories = (reader i signer : ℕ) → IsUnsent histories reader i signer → ⊥

-- ---- what follows

-- Histories that are enough, replay and lack nothing are those of one ledger. No order of steps is known, and nothing is
-- presumed of signatures.
abbrev pub AuditedHistoriesHaveLedger : Type 0
AuditedHistoriesHaveLedger =
    (meaning : Meanings) (config : Config) (ring : Ring) (histories : List History)
    → are_of_a_quorum config histories ≡ true → AreReplays meaning config ring histories → NothingUnsent histories
    → (ledger : List Value) × IsLedger meaning config histories ledger

-- ---- receipts

-- the entry submits the transaction, and its reply takes it into the pool
abbrev pub is_taken : List ℕ → Option Entry → Bool
is_taken tx None = false
is_taken tx (Some e) = takes e.event e.reply
  where
    takes : Event → Reply → Bool
    takes (event.Submit bytes) (reply.Submitted (Ok _)) = same_bytes tx bytes
    takes _ _ = false

-- the history is replica r's, and its entry i took the transaction into the pool
abbrev pub is_receipt : History → ℕ → ℕ → List ℕ → Bool
is_receipt m r i tx = (m.replica == r) && is_taken tx (slice_get m.entries i)
