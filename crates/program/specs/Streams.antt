-- A stream whose frames are delivered: how it ends, and what is printed.
use Rattle.ledger_model.specs.Meanings.{Meanings}
use Rattle.std.specs.Prelude.{◌≡◌, ◌⊎◌, ℕ, ◌≤◌, List, [], ◌++◌, length, map, Option, Some, None, IsTrue, ⊤}
use Rattle.std.specs.Io.KnownBytes.{Appends, Consumes, IsAtEnd}
use Rattle.ledger_model.specs.declared.event.Event.{Event}
use Rattle.ledger_model.specs.declared.history.Entry.{Entry}
use Rattle.ledger_model.specs.declared.statement.SignedStatement.{SignedStatement}
use Rattle.ledger_model.specs.declared.version.Version.{Version}
use Rattle.ledger_model.specs.Spelling.{Frames}
use Rattle.ledger_model.specs.Lawful.{Replay}
use Rattle.ledger_model.specs.Streams.{BeginsTooLong, BeginsMalformed, SplitsTo, BreaksOff}
use Rattle.signed_frames.specs.declared.fault.FrameFault.{FrameFault}
use Rattle.signed_frames.specs.declared.fault.FrameFault.TheVariants as told
use Rattle.signed_frames.specs.Reader.{FrameReaderView, Reading, LeavesReader}
use Rattle.key_ring.specs.Signers.{leaves_of}
use Rattle.cluster_setup.specs.Keys.{ring_of, secret_of}
use Rattle.replica_core.specs.Leaves.{IsMuteForWant}
use Rattle.locked_replica.specs.States.{StateView}
use Rattle.cluster_setup.specs.declared.deliver_settings.DeliverSettings.{DeliverSettings}
use Rattle.program.specs.declared.stream_end.StreamFault.{StreamFault}
use Rattle.program.specs.declared.stream_end.StreamFault.TheVariants.{TooLong, Malformed}
use Rattle.program.specs.declared.stream_end.StreamEnd.{StreamEnd}
use Rattle.program.specs.declared.stream_end.StreamEnd.TheVariants.{Whole, Cut, Fault}
use Rattle.program.specs.Lines.{lines_of, last_line}
use Rattle.byte_streams.specs.declared.program_fault.ProgramFault.{ProgramFault}
use Rattle.byte_streams.specs.declared.program_fault.ProgramFault.TheVariants as fault
use Rattle.byte_streams.specs.Writing.{AppendsSome}
use Rattle.byte_streams.specs.Responding.{Responds, RespondsSome}
use Rattle.program.specs.Answering.{AnswersEvents, AnswersSome, deliveries, starting}
use Rattle.ledger_model.specs.Limits.{max_history_len}
use Rattle.byte_streams.specs.Faults.{is_asked}

-- after these frames come bytes that no frame starts with
abbrev pub Breaks : Version → StreamFault → List ℕ → List SignedStatement → Type 0
Breaks version TooLong input frames = BreaksOff BeginsTooLong version input frames
Breaks version Malformed input frames = BreaksOff BeginsMalformed version input frames

-- the bytes of the stream are these frames, followed by this end
abbrev pub SplitsWithEnd : Version → List ℕ → List SignedStatement → StreamEnd → Type 0
SplitsWithEnd version input frames Whole = SplitsTo version input frames []
SplitsWithEnd version input frames Cut = (rest : List ℕ) × (SplitsTo version input frames rest × (1 ≤ length rest))
SplitsWithEnd version input frames (Fault fault) = Breaks version fault input frames

-- to find this end the whole stream was read; after a fault, the rest may be unread
abbrev pub IsReadTo : StreamEnd → Option (List ℕ) → Type 0
IsReadTo Whole left = IsAtEnd left
IsReadTo Cut left = IsAtEnd left
IsReadTo (Fault fault) left = Unit {0}

-- the fault of the stream for a fault of the frame reader
abbrev pub IsStreamFault : FrameFault → StreamFault → Type 0
IsStreamFault told.TooLong fault = fault ≡ TooLong
IsStreamFault told.Malformed fault = fault ≡ Malformed
IsStreamFault told.Failed fault = ⊥
IsStreamFault told.NoMemory fault = ⊥

-- the reader has found no fault, and has the first bytes of the next frame, if any
abbrev pub IsReading : FrameReaderView → Type 0
IsReading reader = (kept : List ℕ) × (reader.state ≡ Reading kept)

-- the reader has returned frames, and has not failed
abbrev pub IsFed : FrameReaderView → Type 0
IsFed reader = (bytes : List ℕ) × ((frames : List SignedStatement) × LeavesReader reader.version bytes frames reader.state)

-- the bytes are these frames, followed by the bytes that the reader has; or a fault follows the frames
abbrev pub GoesBehind : List ℕ → List SignedStatement → FrameReaderView → Option StreamFault → Type 0
GoesBehind bytes frames reader None = (kept : List ℕ) × ((reader.state ≡ Reading kept) × SplitsTo reader.version bytes frames kept)
GoesBehind bytes frames reader (Some fault) = Breaks reader.version fault bytes frames

-- since the start, these bytes were read from the stream, their frames were delivered, and the lines of the replies were written
pub record UnderWay (meaning : Meanings) (start : StateView) (unread left before after : Option (List ℕ)) (now : StateView)
    (reader : FrameReaderView) : Type 0
  where
    pub input : List ℕ
    pub frames : List SignedStatement
    pub text : List ℕ
    pub read : Consumes unread left input
    pub kept : List ℕ
    pub version : reader.version ≡ start.config.frames
    pub reading : reader.state ≡ Reading kept
    pub given : SplitsTo start.config.frames input frames kept
    pub answers : AnswersEvents meaning start (deliveries frames) text now
    pub written : Appends before after text

-- the same, and the stream has this end after the frames
pub record StreamHasEnded (meaning : Meanings) (start : StateView) (unread left before after : Option (List ℕ)) (now : StateView)
    (end : StreamEnd) : Type 0 where
  pub input : List ℕ
  pub frames : List SignedStatement
  pub text : List ℕ
  pub read : Consumes unread left input
  pub found : IsReadTo end left
  pub stands : SplitsWithEnd start.config.frames input frames end
  pub answers : AnswersEvents meaning start (deliveries frames) text now
  pub written : Appends before after text

-- the same, as far as it came before something failed
pub record StreamHasStopped (meaning : Meanings) (start : StateView) (unread left before after : Option (List ℕ))
    (now : StateView) : Type 0 where
  pub input : List ℕ
  pub frames : List SignedStatement
  pub rest : List ℕ
  pub text : List ℕ
  pub read : Consumes unread left input
  pub stands : Frames start.config.frames input frames rest
  pub answers : AnswersSome meaning start (deliveries frames) text now
  pub written : AppendsSome before after text

-- the stream continues, or a fault was found
abbrev pub ContinuesStream : Meanings → StateView → Option (List ℕ) → Option (List ℕ) → Option (List ℕ) → Option (List ℕ) → StateView
    → FrameReaderView
    → Option StreamFault → Type 0
ContinuesStream meaning start unread left before after now reader None = UnderWay meaning start unread left before after now reader
ContinuesStream meaning start unread left before after now reader (Some fault) = StreamHasEnded meaning start unread left before after now
    (Fault fault)

-- The replica of the settings is mute after these entries only if its key pair had too few leaves for the statements of
-- its own that it had sent and those that were due.
abbrev pub IsMuteOnlySpent : DeliverSettings → List Entry → Type 0
IsMuteOnlySpent s entries = IsMuteForWant s.cluster.config s.replica (leaves_of (secret_of s.cluster s.replica)) 0 entries

-- What `abft deliver` prints for these bytes. The replica of the settings, with the keys of its cluster, took these
-- events, and its lawful replies have these lines; the last line reports what is wrong with the stream.
pub record Delivers (meaning : Meanings) (s : DeliverSettings) (input : List ℕ) (end : StreamEnd) (text : List ℕ) : Type 0 where
  pub frames : List SignedStatement
  pub stands : SplitsWithEnd s.cluster.config.frames input frames end
  pub entries : List Entry
  pub events : map (λ e. e.event) entries ≡ starting s ++ deliveries frames
  pub replay : Replay meaning s.cluster.config (ring_of s.cluster) s.replica entries
  pub mute : IsMuteOnlySpent s entries
  pub lines : lines_of entries ++ last_line end ≡ text

-- the same, as far as it came: the replica took the first of these events, for the first frames of the bytes
pub record DeliversSome (meaning : Meanings) (s : DeliverSettings) (input : List ℕ) (text : List ℕ) : Type 0 where
  pub frames : List SignedStatement
  pub rest : List ℕ
  pub stands : Frames s.cluster.config.frames input frames rest
  pub entries : List Entry
  pub later : List Event
  pub events : map (λ e. e.event) entries ++ later ≡ starting s ++ deliveries frames
  pub replay : Replay meaning s.cluster.config (ring_of s.cluster) s.replica entries
  pub mute : IsMuteOnlySpent s entries
  pub lines : lines_of entries ≡ text

-- the stream was read as far as its end needs, and what is printed for it was written
abbrev pub DeliversStream : Meanings → DeliverSettings → StreamEnd → Option (List ℕ) → Option (List ℕ) → Option (List ℕ) → Option (List ℕ)
    → Type 0
DeliversStream meaning s end unread left before after =
    IsReadTo end left × Responds (λ input text. Delivers meaning s input end text) unread left before after

-- part of the stream was read, and a prefix of what is printed for it was written
abbrev pub DeliversStreamSome : Meanings → DeliverSettings → Option (List ℕ) → Option (List ℕ) → Option (List ℕ) → Option (List ℕ) → Type 0
DeliversStreamSome meaning s unread left before after =
    RespondsSome (λ input text. DeliversSome meaning s input text ⊎ ((end : StreamEnd) × Delivers meaning s input end text)) unread left
    before after

-- the same, and the replica's history was full
abbrev pub FillsHistory : Meanings → DeliverSettings → Option (List ℕ) → Option (List ℕ) → Option (List ℕ) → Option (List ℕ) → Type 0
FillsHistory meaning s unread left before after =
    RespondsSome (λ input text. (some : DeliversSome meaning s input text) × (max_history_len ≤ length some.entries)) unread left before
    after

-- why `abft deliver` stopped: memory ran out, a stream failed, or the history was full
abbrev pub StopsDelivery : Meanings → DeliverSettings → Option (List ℕ) → Option (List ℕ) → Option (List ℕ) → Option (List ℕ) → ProgramFault
    → Type 0
StopsDelivery meaning s unread left before after fault.NoMemory = ⊤
StopsDelivery meaning s unread left before after (fault.Refused resource error) = IsTrue (is_asked resource)
StopsDelivery meaning s unread left before after fault.HistoryFull = FillsHistory meaning s unread left before after
StopsDelivery meaning s unread left before after _ = ⊥
