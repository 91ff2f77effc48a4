-- A reader of frames: what it has between pieces, and its answer to each.
use Rattle.std.specs.Prelude.{◌≡◌, ◌⊎◌, ℕ, ◌≤◌, List, [], ◌++◌, length, drop}
use Rattle.ledger_model.specs.declared.statement.SignedStatement.{SignedStatement}
use Rattle.ledger_model.specs.Spelling.{IsFrameIn, Frames, frame_bytes}
use Rattle.ledger_model.specs.declared.version.Version.{Version}
use Rattle.ledger_model.specs.Streams.{IsPartial, BeginsTooLong, BeginsMalformed, SplitsTo, BreaksOff}
use Rattle.signed_frames.specs.declared.fault.FrameFault.{FrameFault}
use Rattle.signed_frames.specs.declared.fault.FrameFault.TheVariants as fault
use Rattle.signed_frames.specs.declared.splitting.End.{End}
use Rattle.signed_frames.specs.declared.splitting.End.TheVariants as ending
use Rattle.signed_frames.specs.declared.splitting.Front.{Front}
use Rattle.signed_frames.specs.declared.splitting.Front.TheVariants as front
use Rattle.signed_frames.specs.declared.splitting.Split.{Split}
use Rattle.signed_frames.specs.declared.reader.Stage.{Stage}
use Rattle.signed_frames.specs.declared.reader.Stage.TheVariants as stage

-- what a reader has between two pieces: it has less than a whole frame, or found a fault that it returns next, or has returned a fault
pub data ReaderState : Type 0 where
  Reading : (kept : List ℕ) → ReaderState
  Found : (found : FrameFault) → ReaderState
  Failed : ReaderState

-- a reader: the version of the frames that it takes, and its state
pub record FrameReaderView : Type 0 where
  pub version : Version
  pub state : ReaderState

-- a reader's state in this stage, with these bytes
abbrev pub reader_at : Stage → List ℕ → ReaderState
reader_at stage.Reading kept = Reading kept
reader_at (stage.Found found) kept = Found found
reader_at stage.Failed kept = Failed

-- The bytes are these frames, followed by less than a whole frame, which the reader has; or after at least one frame by a
-- fault, which it has found.
abbrev pub LeavesReader : Version → List ℕ → List SignedStatement → ReaderState → Type 0
LeavesReader version bytes frames (Reading rest) = SplitsTo version bytes frames rest
LeavesReader version bytes frames (Found fault.TooLong) = (1 ≤ length frames) × BreaksOff BeginsTooLong version bytes frames
LeavesReader version bytes frames (Found fault.Malformed) = (1 ≤ length frames) × BreaksOff BeginsMalformed version bytes frames
LeavesReader version bytes frames (Found fault.Failed) = ⊥
LeavesReader version bytes frames (Found fault.NoMemory) = ⊥
LeavesReader version bytes frames Failed = ⊥

-- a reader that has found no fault returns the frames in its bytes and the piece
abbrev pub HandsOut : Version → ReaderState → List ℕ → List SignedStatement → ReaderState → Type 0
HandsOut version (Reading kept) piece frames new = LeavesReader version (kept ++ piece) frames new
HandsOut version (Found found) piece frames new = ⊥
HandsOut version Failed piece frames new = ⊥

-- the fault that the bytes start with, after which the reader has failed; or memory ran out, which changes nothing
abbrev pub FailsWith : Version → List ℕ → List ℕ → FrameFault → ReaderState → Type 0
FailsWith version kept piece fault.TooLong new = BreaksOff BeginsTooLong version (kept ++ piece) [] × (new ≡ Failed)
FailsWith version kept piece fault.Malformed new = BreaksOff BeginsMalformed version (kept ++ piece) [] × (new ≡ Failed)
FailsWith version kept piece fault.Failed new = ⊥
FailsWith version kept piece fault.NoMemory new = new ≡ Reading kept

-- a fault that was found is returned once, and Failed from then on
abbrev pub ReturnsFault : Version → ReaderState → List ℕ → FrameFault → ReaderState → Type 0
ReturnsFault version (Reading kept) piece told new = FailsWith version kept piece told new
ReturnsFault version (Found found) piece told new = (told ≡ found) × (new ≡ Failed)
ReturnsFault version Failed piece told new = (told ≡ fault.Failed) × (new ≡ Failed)

-- the fault that was found, if no frame comes before it; or memory ran out
abbrev pub FaultAt : List SignedStatement → FrameFault → FrameFault → Type 0
FaultAt frames found told = ((told ≡ found) × (frames ≡ [])) ⊎ (told ≡ fault.NoMemory)

-- ---- how the frames are split off

-- what follows the frames
abbrev pub EndsStream : Version → End → List ℕ → Type 0
EndsStream version ending.Partial rest = IsPartial version rest
EndsStream version ending.TooLong rest = BeginsTooLong version rest
EndsStream version ending.Malformed rest = BeginsMalformed version rest

-- what the bytes start with
abbrev pub StartsWith : Version → List ℕ → Front → Type 0
StartsWith version bytes (front.Whole frame) = IsFrameIn version frame × (bytes ≡ frame_bytes frame ++ drop (length (frame_bytes frame)) bytes)
StartsWith version bytes (front.Ends end) = EndsStream version end bytes

-- the bytes are these frames, followed by the rest, which starts as the end says
abbrev pub ReadsOn : Version → List ℕ → List SignedStatement → End → List ℕ → Type 0
ReadsOn version bytes frames end rest = Frames version bytes frames rest × EndsStream version end rest

-- the bytes that the split used are its frames, and the bytes after them start as its end says
abbrev pub Splits : Version → List ℕ → Split → Type 0
Splits version bytes split = (split.used ≤ length bytes) × ReadsOn version bytes split.frames.items split.end (drop split.used bytes)
