-- What bytes read as histories, if anything. That reading inverts encoding is a law. The version is that of the cluster's frames.
-- It limits the batches of replies, and says which frames can have been sent; the bytes of a delivery are any bytes.
use Rattle.std.specs.Prelude.{ℕ, zero, suc, ◌+◌, ◌==◌, nat_le, List, [], ◌∷◌, length, find, Option, Some, None, is_some}
use Rattle.std.specs.Prelude.{Result, Ok, Err, if◌then◌else◌}
use Rattle.std.specs.Int.{w16, w32}
use Rattle.ledger_model.specs.declared.event.Event.{Event}
use Rattle.ledger_model.specs.declared.event.Event.TheVariants as event
use Rattle.ledger_model.specs.declared.history.Entry.{Entry}
use Rattle.ledger_model.specs.declared.history.History.{History}
use Rattle.ledger_model.specs.declared.reply.Addressee.{Addressee}
use Rattle.ledger_model.specs.declared.reply.Addressee.TheVariants as addressee
use Rattle.ledger_model.specs.declared.reply.BlockResult.{BlockResult}
use Rattle.ledger_model.specs.declared.reply.Ignored.{Ignored}
use Rattle.ledger_model.specs.declared.reply.Ignored.TheVariants as cause
use Rattle.ledger_model.specs.declared.reply.LastRound.{LastRound}
use Rattle.ledger_model.specs.declared.reply.NotHeld.{NotHeld}
use Rattle.ledger_model.specs.declared.reply.NothingDecided.{NothingDecided}
use Rattle.ledger_model.specs.declared.reply.ProposeRefusal.{ProposeRefusal}
use Rattle.ledger_model.specs.declared.reply.ProposeRefusal.TheVariants as propose
use Rattle.ledger_model.specs.declared.reply.QueryAnswer.{QueryAnswer}
use Rattle.ledger_model.specs.declared.reply.Reply.{Reply}
use Rattle.ledger_model.specs.declared.reply.Reply.TheVariants as reply
use Rattle.ledger_model.specs.declared.reply.RetireRefusal.{RetireRefusal}
use Rattle.ledger_model.specs.declared.reply.RetireRefusal.TheVariants as retire
use Rattle.ledger_model.specs.declared.reply.RoundEnded.{RoundEnded}
use Rattle.ledger_model.specs.declared.reply.Sent.{Sent}
use Rattle.ledger_model.specs.declared.reply.SubmitRefusal.{SubmitRefusal}
use Rattle.ledger_model.specs.declared.reply.SubmitRefusal.TheVariants as refusal
use Rattle.ledger_model.specs.declared.version.Version.{Version}
use Rattle.ledger_model.specs.Causes.{submit_refusal_number, propose_refusal_number, retire_refusal_number, cause_number}
use Rattle.ledger_model.specs.Limits.{max_key_len}
use Rattle.ledger_model.specs.Reading.{◌>>=◌, only_if, guarded, bytes_at, byte_at, number_at, flag_at, value_at, reading_in}

-- ---- fields

-- bytes after their number in four bytes
unfoldable pub long_at : List ℕ → Option (List ℕ × List ℕ)
long_at bytes = do
  len ← number_at w32 bytes
  bytes_at len.0 len.1

-- bytes after their number in one byte
unfoldable pub short_at : List ℕ → Option (List ℕ × List ℕ)
short_at bytes = do
  len ← byte_at bytes
  bytes_at len.0 len.1

-- a key after the number of its bytes, at most 64
unfoldable pub key_at : List ℕ → Option (List ℕ × List ℕ)
key_at bytes = do
  len ← byte_at bytes
  guarded (nat_le len.0 max_key_len) (bytes_at len.0 len.1)

-- ---- events

-- a height and a key
unfoldable pub query_at : List ℕ → Option (Event × List ℕ)
query_at bytes = do
  height ← number_at w32 bytes
  key ← key_at height.1
  Some (event.Query key.0 height.0, key.1)

-- an event without its number, which is `kind`
unfoldable pub event_at : ℕ → List ℕ → Option (Event × List ℕ)
event_at kind bytes =
    if kind == 1 then long_at bytes >>= (λ tx. Some (event.Submit tx.0, tx.1))
    else if kind == 2 then number_at w32 bytes >>= (λ height. Some (event.Propose height.0, height.1))
    else if kind == 3 then long_at bytes >>= (λ frame. Some (event.Deliver frame.0, frame.1))
    else if kind == 4 then Some (event.RoundEnd, bytes)
    else if kind == 5 then Some (event.Execute, bytes)
    else if kind == 6 then query_at bytes
    else if kind == 7 then number_at w32 bytes >>= (λ floor. Some (event.Retire floor.0, floor.1))
    else None

-- ---- refusals and causes, by their number

abbrev pub propose_refusals : List ProposeRefusal
propose_refusals = propose.TooFar ∷ propose.AlreadyOpen ∷ propose.Closed ∷ propose.Retired ∷ []

abbrev pub retire_refusals : List RetireRefusal
retire_refusals = retire.NotCommitted ∷ retire.NotAbove ∷ []

abbrev pub cause_list : List Ignored
cause_list =
    cause.Malformed ∷ cause.Signer ∷ cause.NoRow ∷ cause.WrongRound ∷ cause.WrongPhase ∷ cause.NotOwner ∷ cause.Repeated
    ∷ cause.BadSignature ∷ cause.BadProof ∷ cause.TableFull ∷ cause.NotMine ∷ []

-- the reasons to refuse a transaction that have no code
abbrev pub pool_refusals : List SubmitRefusal
pool_refusals = refusal.Empty ∷ refusal.TooLong ∷ refusal.Duplicate ∷ refusal.Full ∷ []

-- the reason not to open a height
unfoldable pub propose_refusal_of : ℕ → Option ProposeRefusal
propose_refusal_of n = find (λ r. propose_refusal_number r == n) propose_refusals

-- the reason not to raise the floor
unfoldable pub retire_refusal_of : ℕ → Option RetireRefusal
retire_refusal_of n = find (λ r. retire_refusal_number r == n) retire_refusals

-- the cause
unfoldable pub cause_of : ℕ → Option Ignored
cause_of n = find (λ c. cause_number c == n) cause_list

-- the reason to refuse a transaction: 5 precedes the application's code
unfoldable pub submit_refusal_of : ℕ → List ℕ → Option (SubmitRefusal × List ℕ)
submit_refusal_of n bytes =
    if n == 5 then number_at w32 bytes >>= (λ code. Some (refusal.Rejected code.0, code.1))
    else find (λ r. submit_refusal_number r == n) pool_refusals >>= (λ r. Some (r, bytes))

-- ---- replies

-- who gets a frame: 255 is all
abbrev pub addressee_by_number : ℕ → Addressee
addressee_by_number n = if n == 255 then addressee.All else addressee.One n

-- a frame of this version, with its length
unfoldable pub frame_at : Version → List ℕ → Option (List ℕ × List ℕ)
frame_at version bytes = do
  len ← number_at w32 bytes
  frame ← bytes_at (4 + len.0) bytes
  only_if (is_some (reading_in version frame.0)) frame

-- a frame that was sent
unfoldable pub sent_at : Version → List ℕ → Option (Sent × List ℕ)
sent_at version bytes = do
  to ← byte_at bytes
  frame ← frame_at version to.1
  Some (record { addressee = addressee_by_number to.0; frame = frame.0 }, frame.1)

-- n frames that were sent
unfoldable pub frames_of : Version → ℕ → List ℕ → Option (List Sent × List ℕ)
frames_of version zero bytes = Some ([], bytes)
frames_of version (suc n) bytes = do
  first ← sent_at version bytes
  rest ← frames_of version n first.1
  Some (first.0 ∷ rest.0, rest.1)

-- frames that were sent, after their number in two bytes
unfoldable pub frames_at : Version → List ℕ → Option (List Sent × List ℕ)
frames_at version bytes = do
  count ← number_at w16 bytes
  frames_of version count.0 count.1

-- a round end that opened a round
unfoldable pub ended_at : Version → List ℕ → Option (RoundEnded × List ℕ)
ended_at version bytes = do
  mute ← flag_at bytes
  frames ← frames_at version mute.1
  Some (record { mute = mute.0; frames = frames.0 }, frames.1)

-- n codes
unfoldable pub codes_of : ℕ → List ℕ → Option (List ℕ × List ℕ)
codes_of zero bytes = Some ([], bytes)
codes_of (suc n) bytes = do
  first ← number_at w32 bytes
  rest ← codes_of n first.1
  Some (first.0 ∷ rest.0, rest.1)

-- codes, after their number in one byte
unfoldable pub codes_at : List ℕ → Option (List ℕ × List ℕ)
codes_at bytes = do
  count ← byte_at bytes
  codes_of count.0 count.1

-- a block that was run
unfoldable pub block_result_at : List ℕ → Option (BlockResult × List ℕ)
block_result_at bytes = do
  height ← number_at w32 bytes
  codes ← codes_at height.1
  hash ← bytes_at 32 codes.1
  Some (record { height = height.0; codes = codes.0; hash = hash.0 }, hash.1)

-- an optional value
unfoldable pub present_at : List ℕ → Option (Option (List ℕ) × List ℕ)
present_at bytes = do
  present ← flag_at bytes
  if present.0 then short_at present.1 >>= (λ value. Some (Some value.0, value.1)) else Some (None, present.1)

-- the application's answer to a query
unfoldable pub answer_at : List ℕ → Option (QueryAnswer × List ℕ)
answer_at bytes = do
  height ← number_at w32 bytes
  value ← present_at height.1
  Some (record { height = height.0; value = value.0 }, value.1)

-- 0 and the result of a success, or the number of a refusal
abbrev pub outcome_at : {T E : Type 0} → (List ℕ → Option (T × List ℕ)) → (ℕ → List ℕ → Option (E × List ℕ)) → List ℕ
    → Option (Result T E × List ℕ)
outcome_at success refusal bytes = byte_at bytes >>= (λ n.
    if n.0 == 0 then success n.1 >>= (λ x. Some (Ok x.0, x.1)) else refusal n.0 n.1 >>= (λ r. Some (Err r.0, r.1)))

-- a success without a result
abbrev pub nothing_at : List ℕ → Option (Unit {0} × List ℕ)
nothing_at bytes = Some (tt, bytes)

-- a refusal by its number alone
abbrev pub refusal_numbered : {E : Type 0} → (ℕ → Option E) → ℕ → List ℕ → Option (E × List ℕ)
refusal_numbered of n bytes = of n >>= (λ r. Some (r, bytes))

-- the only refusal of its kind, whose number is 1
abbrev pub only_refusal : {E : Type 0} → E → ℕ → Option E
only_refusal r n = only_if (n == 1) r

-- the reply to each kind of event, without its number
unfoldable pub submitted_at : List ℕ → Option (Result (Unit {0}) SubmitRefusal × List ℕ)
submitted_at = outcome_at nothing_at submit_refusal_of

unfoldable pub proposed_at : Version → List ℕ → Option (Result (List (List ℕ)) ProposeRefusal × List ℕ)
proposed_at version = outcome_at (value_at version) (refusal_numbered propose_refusal_of)

unfoldable pub delivered_at : List ℕ → Option (Result (Unit {0}) Ignored × List ℕ)
delivered_at = outcome_at nothing_at (refusal_numbered cause_of)

unfoldable pub round_ended_at : Version → List ℕ → Option (Result RoundEnded LastRound × List ℕ)
round_ended_at version = outcome_at (ended_at version) (refusal_numbered (only_refusal (record {})))

unfoldable pub executed_at : List ℕ → Option (Result BlockResult NothingDecided × List ℕ)
executed_at = outcome_at block_result_at (refusal_numbered (only_refusal (record {})))

unfoldable pub queried_at : List ℕ → Option (Result QueryAnswer NotHeld × List ℕ)
queried_at = outcome_at answer_at (refusal_numbered (only_refusal (record {})))

unfoldable pub retired_at : List ℕ → Option (Result ℕ RetireRefusal × List ℕ)
retired_at = outcome_at (number_at w32) (refusal_numbered retire_refusal_of)

-- a reply, in a cluster with frames of this version, without its number, which is `kind`
unfoldable pub reply_at : Version → ℕ → List ℕ → Option (Reply × List ℕ)
reply_at version kind bytes =
    if kind == 1 then submitted_at bytes >>= (λ r. Some (reply.Submitted r.0, r.1))
    else if kind == 2 then proposed_at version bytes >>= (λ r. Some (reply.Proposed r.0, r.1))
    else if kind == 3 then delivered_at bytes >>= (λ r. Some (reply.Delivered r.0, r.1))
    else if kind == 4 then round_ended_at version bytes >>= (λ r. Some (reply.RoundEnded r.0, r.1))
    else if kind == 5 then executed_at bytes >>= (λ r. Some (reply.Executed r.0, r.1))
    else if kind == 6 then queried_at bytes >>= (λ r. Some (reply.Queried r.0, r.1))
    else if kind == 7 then retired_at bytes >>= (λ r. Some (reply.Retired r.0, r.1))
    else None

-- ---- histories

-- an entry: an event, and a reply that repeats the event's number
unfoldable pub entry_at : Version → List ℕ → Option (Entry × List ℕ)
entry_at version bytes = do
  kind ← byte_at bytes
  event ← event_at kind.0 kind.1
  again ← byte_at event.1
  reply ← guarded (again.0 == kind.0) (reply_at version kind.0 again.1)
  Some (record { event = event.0; reply = reply.0 }, reply.1)

-- n entries
unfoldable pub entry_list_of : Version → ℕ → List ℕ → Option (List Entry × List ℕ)
entry_list_of version zero bytes = Some ([], bytes)
entry_list_of version (suc n) bytes = do
  first ← entry_at version bytes
  rest ← entry_list_of version n first.1
  Some (first.0 ∷ rest.0, rest.1)

-- entries, after their number in four bytes
unfoldable pub entry_list_at : Version → List ℕ → Option (List Entry × List ℕ)
entry_list_at version bytes = do
  count ← number_at w32 bytes
  entry_list_of version count.0 count.1

-- a history: its replica and its entries
unfoldable pub history_at : Version → List ℕ → Option (History × List ℕ)
history_at version bytes = do
  replica ← byte_at bytes
  entries ← entry_list_at version replica.1
  Some (record { replica = replica.0; entries = entries.0 }, entries.1)

-- the histories that all of the bytes are, if they are at most n
unfoldable pub histories_within : Version → ℕ → List ℕ → Option (List History)
histories_within version n [] = Some []
histories_within version zero (b ∷ bytes) = None
histories_within version (suc n) (b ∷ bytes) = do
  first ← history_at version (b ∷ bytes)
  rest ← histories_within version n first.1
  Some (first.0 ∷ rest)

-- the histories that all of the bytes are, one after another, if they are histories; each has at least one byte
unfoldable pub histories_reading : Version → List ℕ → Option (List History)
histories_reading version bytes = histories_within version (length bytes) bytes
