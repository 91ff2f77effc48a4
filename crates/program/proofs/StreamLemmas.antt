-- The bytes that were read of a stream of frames.
use Rattle.std.proofs.Common.{◌≡◌, ◌≢◌, ℕ, List, [], ◌++◌, refl, sym, subst, ◌∙◌, append-nil}
use Rattle.ledger_model.specs.declared.statement.SignedStatement.{SignedStatement}
use Rattle.ledger_model.specs.Spelling.{Frames}
use Rattle.ledger_model.specs.Streams.{BeginsTooLong, BeginsMalformed, SplitsTo, BreaksOff}
use Rattle.signed_frames.specs.declared.fault.FrameFault.{FrameFault}
use Rattle.signed_frames.specs.declared.fault.FrameFault.TheVariants as told
use Rattle.ledger_model.specs.declared.version.Version.{Version}
use Rattle.signed_frames.specs.Reader.{ReaderState, Reading, Found, Failed, HandsOut, LeavesReader, ReturnsFault, FailsWith}
use Rattle.signed_frames.proofs.Joined.{longer, joined}
use Rattle.signed_frames.proofs.Fronts.{frames_join}
use Rattle.program.specs.declared.stream_end.StreamFault.{StreamFault}
use Rattle.program.specs.Streams.{Breaks, IsStreamFault}

-- the frames of what was read, and of the next piece
pub more_given : (version : Version) (input kept piece : List ℕ) (frames found : List SignedStatement) (new : ReaderState)
    → SplitsTo version input frames kept
    → LeavesReader version (kept ++ piece) found new
    → LeavesReader version (input ++ piece) (frames ++ found) new
more_given version input kept piece frames found new given leaves = joined version (Reading []) (Reading kept) new input piece frames found
    given leaves

-- a reader that handed out frames is within the bytes after them
pub frames_left : (version : Version) (bytes : List ℕ) (frames : List SignedStatement) (reader : ReaderState)
    → LeavesReader version bytes frames reader
    → (rest : List ℕ) × Frames version bytes frames rest
frames_left version bytes frames (Reading kept) l = (kept, l.0)
frames_left version bytes frames (Found told.TooLong) l = (l.1.0, l.1.1.0)
frames_left version bytes frames (Found told.Malformed) l = (l.1.0, l.1.1.0)
frames_left version bytes frames (Found told.Failed) l = absurd l
frames_left version bytes frames (Found told.NoMemory) l = absurd l
frames_left version bytes frames Failed l = absurd l

-- what breaks off after a piece breaks off after all
break_after : (version : Version) (Begins : Version → List ℕ → Type 0) (input kept piece : List ℕ) (frames : List SignedStatement)
    → SplitsTo version input frames kept
    → BreaksOff Begins version (kept ++ piece) []
    → BreaksOff Begins version (input ++ piece) frames
break_after version Begins input kept piece frames given breaks =
    subst (λ l. BreaksOff Begins version (input ++ piece) l) (append-nil frames) (
      breaks.0,
      (
        frames_join version (input ++ piece) (kept ++ piece) breaks.0 frames [] (longer version input kept piece frames given.0) breaks.1.0,
        breaks.1.1,
      ),
    )

-- the fault that a reader finds in a piece
pub told_after : (version : Version) (input kept piece : List ℕ) (frames : List SignedStatement) (fault : FrameFault) (new : ReaderState)
    (found : StreamFault)
    → SplitsTo version input frames kept → FailsWith version kept piece fault new → IsStreamFault fault found
    → Breaks version found (input ++ piece) frames
told_after version input kept piece frames told.TooLong new found given faults is =
    subst (λ f. Breaks version f (input ++ piece) frames) (sym is)
    (break_after version BeginsTooLong input kept piece frames given faults.0)
told_after version input kept piece frames told.Malformed new found given faults is =
    subst (λ f. Breaks version f (input ++ piece) frames) (sym is)
    (break_after version BeginsMalformed input kept piece frames given faults.0)
told_after version input kept piece frames told.Failed new found given faults is = absurd is
told_after version input kept piece frames told.NoMemory new found given faults is = absurd is

-- the fault that was found after frames
pub told_behind : (version : Version) (bytes : List ℕ) (frames : List SignedStatement) (fault : FrameFault) (found : StreamFault)
    → LeavesReader version bytes frames (Found fault) → IsStreamFault fault found → Breaks version found bytes frames
told_behind version bytes frames told.TooLong found l is = subst (λ f. Breaks version f bytes frames) (sym is) l.1
told_behind version bytes frames told.Malformed found l is = subst (λ f. Breaks version f bytes frames) (sym is) l.1
told_behind version bytes frames told.Failed found l is = absurd is
told_behind version bytes frames told.NoMemory found l is = absurd is

-- a reader that goes on doesn't say that it failed
pub reading_unfailed : (version : Version) (reader : ReaderState) (kept piece : List ℕ) (fault : FrameFault) (new : ReaderState)
    → reader ≡ Reading kept → ReturnsFault version reader piece fault new → fault ≢ told.Failed
reading_unfailed version (Reading some) kept piece told.TooLong new is tells = λ e. absurd cc
reading_unfailed version (Reading some) kept piece told.Malformed new is tells = λ e. absurd cc
reading_unfailed version (Reading some) kept piece told.Failed new is tells = absurd tells
reading_unfailed version (Reading some) kept piece told.NoMemory new is tells = λ e. absurd cc
reading_unfailed version (Found found) kept piece fault new is tells = absurd cc
reading_unfailed version Failed kept piece fault new is tells = absurd cc

-- nor does one that handed out frames
pub fed_unfailed : (version : Version) (reader : ReaderState) (bytes piece : List ℕ) (frames : List SignedStatement) (fault : FrameFault)
    (new : ReaderState) → LeavesReader version bytes frames reader → ReturnsFault version reader piece fault new → fault ≢ told.Failed
fed_unfailed version (Reading kept) bytes piece frames fault new l tells = reading_unfailed version (Reading kept) kept piece fault new refl
    tells
fed_unfailed version (Found told.TooLong) bytes piece frames fault new l tells = λ e. let bad : told.Failed ≡ told.TooLong =
    sym e ∙ tells.0 in absurd cc
fed_unfailed version (Found told.Malformed) bytes piece frames fault new l tells = λ e. let bad : told.Failed ≡ told.Malformed =
    sym e ∙ tells.0 in absurd cc
fed_unfailed version (Found told.Failed) bytes piece frames fault new l tells = absurd l
fed_unfailed version (Found told.NoMemory) bytes piece frames fault new l tells = absurd l
fed_unfailed version Failed bytes piece frames fault new l tells = absurd l

-- an empty piece shows that no fault follows the frames that were handed out
pub behind_none : (version : Version) (old new : ReaderState) (bytes : List ℕ) (frames out : List SignedStatement)
    → LeavesReader version bytes frames old
    → HandsOut version old [] out new
    → ((kept rest : List ℕ) (all : List SignedStatement) → old ≡ Reading kept → SplitsTo version (kept ++ []) all rest → (out ≡ all)
    × (new ≡ Reading rest))
    → (kept : List ℕ) × ((new ≡ Reading kept) × SplitsTo version bytes frames kept)
behind_none version (Reading kept) new bytes frames out l handed whole =
    (kept, ((whole kept kept [] refl ((tt, append-nil kept), l.1)).1, l))
behind_none version (Found found) new bytes frames out l handed whole = absurd handed
behind_none version Failed new bytes frames out l handed whole = absurd l

-- or that one does
pub behind_some : (version : Version) (old new : ReaderState) (bytes : List ℕ) (frames : List SignedStatement) (fault : FrameFault)
    (found : StreamFault)
    → LeavesReader version bytes frames old → ReturnsFault version old [] fault new → IsStreamFault fault found
    → Breaks version found bytes frames
behind_some version (Reading kept) new bytes frames fault found l tells is =
    subst (λ b. Breaks version found b frames) (append-nil bytes) (told_after version bytes kept [] frames fault new found l tells is)
behind_some version (Found some) new bytes frames fault found l tells is =
    told_behind version bytes frames some found l (subst (λ f. IsStreamFault f found) tells.0 is)
behind_some version Failed new bytes frames fault found l tells is = absurd l
