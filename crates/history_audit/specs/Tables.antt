-- A table of statements that replicas sent.
use Rattle.std.specs.Prelude.{◌≡◌, ℕ, ◌==◌, nat_eq, map, Bool, ◌&&◌, ◌||◌, List}
use Rattle.std.specs.List.{list_any, filter_map}
use Rattle.std.specs.Cmp.Lexicographic.{pointwise}
use Rattle.ledger_model.specs.declared.history.History.{History}
use Rattle.ledger_model.specs.declared.reply.Sent.{Sent}
use Rattle.ledger_model.specs.declared.statement.Statement.{Statement}
use Rattle.ledger_model.specs.Spelling.{statement_bytes}
use Rattle.ledger_model.specs.Reading.{reading}
use Rattle.ledger_model.specs.Pools.{is_among}
use Rattle.ledger_model.specs.Groups.{history_of}
use Rattle.ledger_model.specs.Audits.{own_sent, lacks}
use Rattle.signed_frames.specs.Lending.{SignedPartView}
use Rattle.history_audit.specs.declared.sent_table.SentStatement.{SentStatement}

-- the bytes of a statement that this replica sent
abbrev pub sent_statement : ℕ → List ℕ → SentStatement
sent_statement r bytes = record { replica = r; statement = bytes }

-- the same statement of the same replica
abbrev pub same_sent : SentStatement → SentStatement → Bool
same_sent s u = nat_eq s.replica u.replica && pointwise nat_eq s.statement u.statement

-- the table has the statement of the replica
abbrev pub has_sent : List SentStatement → ℕ → List ℕ → Bool
has_sent table r bytes = list_any (same_sent (sent_statement r bytes)) table

-- the table has what it had, and these statements of the replica
abbrev pub Gains : List SentStatement → ℕ → List (List ℕ) → List SentStatement → Type 0
Gains old r more new =
    (q : ℕ) (bytes : List ℕ) → has_sent new q bytes ≡ (has_sent old q bytes || ((q == r) && is_among more bytes))

-- the statement is one that a history of that replica, among these, sends
abbrev pub is_sent_in : List History → ℕ → List ℕ → Bool
is_sent_in histories r bytes = list_any (λ (m : History). (r == m.replica) && is_among (own_sent m.entries) bytes) histories

-- the table has exactly the statements of their own that these histories send
abbrev pub IsTableOf : List History → List SentStatement → Type 0
IsTableOf histories table = (r : ℕ) (bytes : List ℕ) → has_sent table r bytes ≡ is_sent_in histories r bytes

-- the statements of the frames, in order; what is no frame is left out
abbrev pub statements_of : List Sent → List Statement
statements_of frames = map (λ s. s.statement) (filter_map (λ f. reading f.frame) frames)

-- the bytes of each statement
abbrev pub statements_bytes : List Statement → List (List ℕ)
statements_bytes statements = map statement_bytes statements

-- the signer's history was handed in, and doesn't send what the signer is said to have signed
abbrev pub lacks_part : List History → SignedPartView → Bool
lacks_part histories part = lacks (history_of histories part.signer) part.message
