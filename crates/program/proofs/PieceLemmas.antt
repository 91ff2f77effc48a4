-- One more piece of a stream that is under way.
use Rattle.ledger_model.specs.Meanings.{Meanings}
use Rattle.std.proofs.Common.{◌≡◌, ℕ, List, ◌++◌, sym, subst}
use Rattle.std.specs.Prelude.{Option, Some, None, Result, Ok, Err, IfOk, MatchResult}
use Rattle.std.specs.Io.KnownBytes.{Consumes}
use Rattle.std.proofs.KnownBytes.{Appends-trans, Consumes-trans}
use Rattle.std.proofs.lemmas.List.{map-append}
use Rattle.ledger_model.specs.declared.statement.SignedStatement.{SignedStatement}
use Rattle.signed_frames.specs.declared.fault.FrameFault.{FrameFault}
use Rattle.signed_frames.specs.Reader.{FrameReaderView, HandsOut, LeavesReader, ReturnsFault}
use Rattle.signed_frames.proofs.Joined.{longer}
use Rattle.locked_replica.specs.States.{StateView}
use Rattle.program.specs.declared.stream_end.StreamFault.{StreamFault}
use Rattle.program.specs.declared.stream_end.StreamEnd.TheVariants.{Fault}
use Rattle.program.specs.Answering.{AnswersEvents, AnswersSome, Printed, PrintedSome, deliveries}
use Rattle.program.specs.Streams.{StreamHasEnded, GoesBehind, ContinuesStream, IsStreamFault, StreamHasStopped, UnderWay}
use Rattle.byte_streams.proofs.WritingLemmas.{all_some, then_some}
use Rattle.program.proofs.AnsweringLemmas.{answers_both, some_after, some_all}
use Rattle.program.proofs.PrintingLemmas.{printed_all}
use Rattle.program.proofs.StreamLemmas.{frames_left, more_given, told_after}

-- the deliveries of frames, and of others
pub deliveries-append : (xs ys : List SignedStatement) → deliveries xs ++ deliveries ys ≡ deliveries (xs ++ ys)
deliveries-append xs ys = sym (map-append _ xs ys)

module _ (meaning : Meanings) (start state new : StateView) (unread now left before out after : Option (List ℕ)) (reader : FrameReaderView)
    (piece : List ℕ)
    (so_far : UnderWay meaning start unread now before out state reader) (read : Consumes now left piece) where
  -- the frames that were handed out of the piece join those before
  given_now : (found : List SignedStatement) (next : FrameReaderView) → HandsOut reader.version reader.state piece found next.state
      → LeavesReader start.config.frames (so_far.input ++ piece) (so_far.frames ++ found) next.state
  given_now found next handed =
      more_given start.config.frames so_far.input so_far.kept piece so_far.frames found next.state so_far.given
      (rw (so_far.reading, so_far.version) at handed)

  read_now : Consumes unread left (so_far.input ++ piece)
  read_now = Consumes-trans unread now left so_far.input piece so_far.read read

  -- it goes on after the frames, or a fault stands there
  pub piece_goes : (found : List SignedStatement) (next last : FrameReaderView) (fault : Option StreamFault) → next.version
      ≡ start.config.frames → last.version ≡ start.config.frames
      → HandsOut reader.version reader.state piece found next.state
      → Printed meaning state (deliveries found) new out after
      → ((bytes : List ℕ) (frames : List SignedStatement) → LeavesReader next.version bytes frames next.state
      → GoesBehind bytes frames last fault)
      → ContinuesStream meaning start unread left before after new last fault
  piece_goes found next last None is_next is_last handed printed behind =
      let (kept, goes) = behind (so_far.input ++ piece) (so_far.frames ++ found) (rw is_next (given_now found next handed)) in record {
        input = so_far.input ++ piece;
        frames = so_far.frames ++ found;
        text = so_far.text ++ printed.0;
        read = read_now;
        kept = kept;
        version = is_last;
        reading = goes.0;
        given = rw is_last at goes.1;
        answers = subst (λ l. AnswersEvents meaning start l (so_far.text ++ printed.0) new) (deliveries-append so_far.frames found)
            (answers_both meaning start state new (deliveries so_far.frames)
            (deliveries found) so_far.text printed.0 so_far.answers printed.1.0);
        written = Appends-trans before out after so_far.text printed.0 so_far.written printed.1.1;
      }
  piece_goes found next last (Some fault) is_next is_last handed printed behind = record {
    input = so_far.input ++ piece;
    frames = so_far.frames ++ found;
    text = so_far.text ++ printed.0;
    read = read_now;
    found = tt;
    stands = rw is_last at (behind (so_far.input ++ piece) (so_far.frames ++ found) (rw is_next (given_now found next handed)));
    answers = subst (λ l. AnswersEvents meaning start l (so_far.text ++ printed.0) new) (deliveries-append so_far.frames found)
        (answers_both meaning start state new (deliveries so_far.frames)
        (deliveries found) so_far.text printed.0 so_far.answers printed.1.0);
    written = Appends-trans before out after so_far.text printed.0 so_far.written printed.1.1;
  }

  -- it stops within the frames, or after them
  pub piece_stops : (found : List SignedStatement) (next : FrameReaderView) → HandsOut reader.version reader.state piece found next.state
      → PrintedSome meaning state (deliveries found) new out after
      → StreamHasStopped meaning start unread left before after new
  piece_stops found next handed printed =
      let (rest, frames) = frames_left start.config.frames (so_far.input ++ piece) (so_far.frames ++ found) next.state
      (given_now found next handed) in record {
        input = so_far.input ++ piece;
        frames = so_far.frames ++ found;
        rest = rest;
        text = so_far.text ++ printed.0;
        read = read_now;
        stands = frames;
        answers = subst (λ l. AnswersSome meaning start l (so_far.text ++ printed.0) new) (deliveries-append so_far.frames found)
            (some_after meaning start state new (deliveries so_far.frames)
            (deliveries found) so_far.text printed.0 so_far.answers printed.1.0);
        written = then_some before out after so_far.text printed.0 so_far.written printed.1.1;
      }

  -- either of both
  pub piece_behind : {E : Type 0} → (found : List SignedStatement) (next last : FrameReaderView) (r : Result (Option StreamFault) E)
      → next.version ≡ start.config.frames → last.version ≡ start.config.frames
      → HandsOut reader.version reader.state piece found next.state
      → Printed meaning state (deliveries found) new out after
      → ((bytes : List ℕ) (frames : List SignedStatement) → LeavesReader next.version bytes frames next.state
      → IfOk r (GoesBehind bytes frames last))
      → MatchResult r (ContinuesStream meaning start unread left before after new last)
      (λ _. StreamHasStopped meaning start unread left before after new)
  piece_behind found next last (Ok fault) is_next is_last handed printed behind =
      piece_goes found next last fault is_next is_last handed printed behind
  piece_behind found next last (Err e) is_next is_last handed printed behind =
      piece_stops found next handed (printed_all meaning state new (deliveries found) out after printed)

  -- a fault stands there, with no frame before it
  pub piece_told : (fault : FrameFault) (next : FrameReaderView) (found : StreamFault)
      → ReturnsFault reader.version reader.state piece fault next.state → IsStreamFault fault found
      → StreamHasEnded meaning start unread left before out state (Fault found)
  piece_told fault next found tells is = record {
    input = so_far.input ++ piece;
    frames = so_far.frames;
    text = so_far.text;
    read = read_now;
    found = tt;
    stands = told_after start.config.frames so_far.input so_far.kept piece so_far.frames fault next.state found so_far.given
        (rw (so_far.reading, so_far.version) at tells) is;
    answers = so_far.answers;
    written = so_far.written;
  }

  -- nothing was delivered of the piece
  pub piece_lost : StreamHasStopped meaning start unread left before out state
  piece_lost = record {
    input = so_far.input ++ piece;
    frames = so_far.frames;
    rest = so_far.kept ++ piece;
    text = so_far.text;
    read = read_now;
    stands = longer start.config.frames so_far.input so_far.kept piece so_far.frames so_far.given.0;
    answers = some_all meaning start state (deliveries so_far.frames) so_far.text so_far.answers;
    written = all_some before out so_far.text so_far.written;
  }
