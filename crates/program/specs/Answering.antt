-- A replica's replies to events in order, and the text that is printed for them.
use Rattle.ledger_model.specs.Meanings.{Meanings}
use Rattle.std.specs.Prelude.{◌≡◌, ◌≤◌, ℕ, List, ◌∷◌, ◌++◌, map, replicate, Option, Result, MatchResult}
use Rattle.ledger_model.specs.declared.event.Event.{Event}
use Rattle.ledger_model.specs.declared.event.Event.TheVariants as event
use Rattle.ledger_model.specs.declared.history.Entry.{Entry}
use Rattle.ledger_model.specs.declared.statement.SignedStatement.{SignedStatement}
use Rattle.ledger_model.specs.Spelling.{frame_bytes}
use Rattle.ledger_model.specs.Lawful.{Replay}
use Rattle.cluster_setup.specs.Keys.{ring_of, secret_of, unused}
use Rattle.locked_replica.specs.States.{StateView, AccountsForLeaves, UsesAsSigned, new_state}
use Rattle.cluster_setup.specs.declared.deliver_settings.DeliverSettings.{DeliverSettings}
use Rattle.program.specs.Lines.{lines_of}
use Rattle.byte_streams.specs.Writing.{AppendsSome}
use Rattle.std.specs.Io.KnownBytes.{Appends}

-- These entries were added to the history of the same replica, and the history stays a replay. Each statement of its
-- own that the entries send used one leaf, and the replica is mute only if too few leaves were left.
pub record Grows (meaning : Meanings) (old : StateView) (added : List Entry) (new : StateView) : Type 0 where
  pub entries : new.entries ≡ old.entries ++ added
  pub same : new ≡ record old { used = new.used; entries = new.entries; machine = new.machine }
  pub replay : Replay meaning old.config old.ring old.id old.entries → Replay meaning new.config new.ring new.id new.entries
  pub signed : UsesAsSigned old new
  pub account : AccountsForLeaves old → AccountsForLeaves new

-- the replica took no event, but it may have used leaves
pub record TakesNoEvent (old new : StateView) : Type 0 where
  pub same : new ≡ record old { used = new.used }
  pub least : old.used ≤ new.used

-- the replica took these events, in order; the text is the lines of its replies
pub record AnswersEvents (meaning : Meanings) (old : StateView) (events : List Event) (text : List ℕ) (new : StateView) : Type 0 where
  pub added : List Entry
  pub grown : Grows meaning old added new
  pub these : map (λ e. e.event) added ≡ events
  pub lines : lines_of added ≡ text

-- the replica took the first of these events, and may have refused the next one; the text is the lines of its replies
pub record AnswersSome (meaning : Meanings) (old : StateView) (events : List Event) (text : List ℕ) (new : StateView) : Type 0 where
  pub taken : List Event
  pub later : List Event
  pub split : taken ++ later ≡ events
  pub last : StateView
  pub answers : AnswersEvents meaning old taken text last
  pub refused : TakesNoEvent last new

-- the replica took these events, and the lines of its replies were written
abbrev pub Printed : Meanings → StateView → List Event → StateView → Option (List ℕ) → Option (List ℕ) → Type 0
Printed meaning old events new before after = (text : List ℕ) × (AnswersEvents meaning old events text new × Appends before after text)

-- the replica took the first of these events, and a prefix of the lines of its replies was written
abbrev pub PrintedSome : Meanings → StateView → List Event → StateView → Option (List ℕ) → Option (List ℕ) → Type 0
PrintedSome meaning old events new before after = (text : List ℕ)
    × (AnswersSome meaning old events text new × AppendsSome before after text)

-- the replica took all events and all lines were written, or, after a fault, only some
abbrev pub Prints : Meanings → {T E : Type 0} → Result T E → StateView → List Event → StateView → Option (List ℕ) → Option (List ℕ) → Type 0
Prints meaning result old events new before after =
    MatchResult result (λ _. Printed meaning old events new before after) (λ _. PrintedSome meaning old events new before after)

-- the deliveries of frames
abbrev pub deliveries : List SignedStatement → List Event
deliveries frames = map (λ f. event.Deliver (frame_bytes f)) frames

-- the replica of the settings, with an empty history
abbrev pub fresh : Meanings → DeliverSettings → StateView
fresh meaning s = new_state meaning s.cluster.config s.replica (ring_of s.cluster) (unused (secret_of s.cluster s.replica))

-- what happens before the first frame is delivered: the value is submitted, the height is proposed, and the rounds end
abbrev pub starting : DeliverSettings → List Event
starting s = event.Submit s.value ∷ event.Propose s.height ∷ replicate s.rounds event.RoundEnd
