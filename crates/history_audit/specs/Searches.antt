-- What a search for unsent statements finds.
use Rattle.std.specs.Prelude.{◌≡◌, ℕ, ◌<◌, ◌≤◌, nat_le, if◌then◌else◌, List, [], ◌∷◌, slice_get, Option, Some, None, Result, Ok, Err, ⊤}
use Rattle.ledger_model.specs.declared.event.Event.{Event}
use Rattle.ledger_model.specs.declared.event.Event.TheVariants as event
use Rattle.ledger_model.specs.declared.history.Entry.{Entry}
use Rattle.ledger_model.specs.declared.reply.Reply.{Reply}
use Rattle.ledger_model.specs.declared.reply.Reply.TheVariants as reply
use Rattle.ledger_model.specs.declared.statement.SignedStatement.{SignedStatement}
use Rattle.ledger_model.specs.Reading.{reading}
use Rattle.ledger_model.specs.declared.history.History.{History}
use Rattle.ledger_model.specs.Notes.{Has}
use Rattle.ledger_model.specs.Groups.{history_of}
use Rattle.ledger_model.specs.Audits.{unsent_in, IsFirstUnsent, NothingUnsent}
use Rattle.signed_frames.specs.Lending.{SignedPartView}
use Rattle.history_audit.specs.Tables.{lacks_part}
use Rattle.history_audit.specs.declared.unsent.UnsentAt.{UnsentAt}
use Rattle.history_audit.specs.declared.fault.AuditFault.{AuditFault}
use Rattle.history_audit.specs.declared.fault.AuditFault.TheVariants as fault

-- the least of these numbers, if there are any
abbrev pub IsLeast : List ℕ → Option ℕ → Type 0
IsLeast xs None = xs ≡ []
IsLeast xs (Some x) = Has xs x × ((y : ℕ) → Has xs y → x ≤ y)

-- the frame that the entry accepts, if it accepts one
abbrev pub accepted_frame : Event → Reply → Option SignedStatement
accepted_frame (event.Deliver bytes) (reply.Delivered (Ok _)) = reading bytes
accepted_frame _ _ = None

-- the lesser of the two numbers
abbrev pub with_signer : Option ℕ → ℕ → Option ℕ
with_signer None x = Some x
with_signer (Some y) x = if nat_le y x then Some y else Some x

-- the least of the numbers, with the signers of these parts whose histories lack them
abbrev pub least_unsent : List History → Option ℕ → List SignedPartView → Option ℕ
least_unsent histories least [] = least
least_unsent histories least (p ∷ ps) =
    least_unsent histories (if lacks_part histories p then with_signer least p.signer else least) ps

-- no entry accepts a statement that its signer's history doesn't send
abbrev pub AreSent : List History → List Entry → Type 0
AreSent histories entries = (j y : ℕ) (e : Entry) → slice_get entries j ≡ Some e → Has (unsent_in histories e) y → ⊥

-- entry i is the first that accepts such a statement, and the signer is the least there
pub record IsFirstOf (histories : List History) (entries : List Entry) (i signer : ℕ) : Type 0 where
  pub entry : Entry
  pub at : slice_get entries i ≡ Some entry
  pub is_least : IsLeast (unsent_in histories entry) (Some signer)
  pub before : (j y : ℕ) (e : Entry) → j < i → slice_get entries j ≡ Some e → Has (unsent_in histories e) y → ⊥

-- what a search of one history answers
abbrev pub AnswersSearch : List History → List Entry → Option UnsentAt → Type 0
AnswersSearch histories entries None = AreSent histories entries
AnswersSearch histories entries (Some at) = IsFirstOf histories entries at.index at.signer

-- what a search of a replica's history answers, if it was handed in
abbrev pub AnswersReader : List History → ℕ → Option UnsentAt → Type 0
AnswersReader histories reader None = (m : History) → history_of histories reader ≡ Some m → AreSent histories m.entries
AnswersReader histories reader (Some at) =
    (m : History) × ((history_of histories reader ≡ Some m) × IsFirstOf histories m.entries at.index at.signer)

-- what a search of all histories answers
abbrev pub FindsUnsent : List History → Result (Unit {0}) AuditFault → Type 0
FindsUnsent histories (Ok _) = NothingUnsent histories
FindsUnsent histories (Err (fault.Unsent reader i signer)) = IsFirstUnsent histories reader i signer
FindsUnsent histories (Err fault.NoMemory) = ⊤
FindsUnsent histories (Err fault.Count) = ⊥
FindsUnsent histories (Err (fault.NotReplay r i)) = ⊥
