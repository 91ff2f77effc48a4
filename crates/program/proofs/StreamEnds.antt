-- A stream that starts, ends or fails.
use Rattle.ledger_model.specs.Meanings.{Meanings}
use Rattle.std.proofs.Common.{◌≡◌, ℕ, List, [], ◌∷◌, take, refl, sym, ap, subst, ◌∙◌, append-nil, inl, lit<, arith}
use Rattle.std.specs.Prelude.{Option, Some, None}
use Rattle.std.specs.Io.KnownBytes.{Consumes, Keeps}
use Rattle.std.proofs.KnownBytes.{Appends-nil, Consumes-nil, Consumes-trans, Consumes-kept}
use Rattle.ledger_model.specs.declared.statement.SignedStatement.{SignedStatement}
use Rattle.ledger_model.specs.Streams.{SplitsTo}
use Rattle.signed_frames.specs.Reader.{FrameReaderView, ReaderState, Reading, Found, Failed}
use Rattle.ledger_model.specs.declared.version.Version.{Version}
use Rattle.locked_replica.specs.States.{StateView}
use Rattle.program.specs.declared.stream_end.StreamEnd.{StreamEnd}
use Rattle.program.specs.declared.stream_end.StreamEnd.TheVariants.{Whole, Cut, Fault}
use Rattle.program.specs.declared.stream_end.StreamFault.{StreamFault}
use Rattle.program.specs.Answering.{deliveries}
use Rattle.program.specs.Streams.{StreamHasEnded, ContinuesStream, IsReadTo, SplitsWithEnd, StreamHasStopped, UnderWay}
use Rattle.byte_streams.proofs.WritingLemmas.{all_some}
use Rattle.program.proofs.AnsweringLemmas.{answers_none, some_all}

-- nothing was read yet
pub begun : (meaning : Meanings) (start : StateView) (unread before : Option (List ℕ)) (reader : FrameReaderView)
    → reader.state ≡ Reading []
    → reader.version ≡ start.config.frames → UnderWay meaning start unread unread before before start reader
begun meaning start unread before reader reading version = record {
  input = [];
  frames = [];
  text = [];
  read = Consumes-nil unread;
  kept = [];
  version = version;
  reading = reading;
  given = ((tt, refl), inl (lit< tt));
  answers = answers_none meaning start;
  written = Appends-nil before;
}

-- nothing was left to read
pub ended_of : (meaning : Meanings) (start state : StateView) (unread now left before out : Option (List ℕ)) (reader : FrameReaderView)
    (end : StreamEnd)
    (n : ℕ) (piece : List ℕ)
    → UnderWay meaning start unread now before out state reader → Consumes now left (take n piece) → n ≡ 0 → IsReadTo end left
    → ((input : List ℕ) (given : List SignedStatement) (kept : List ℕ) → reader.state ≡ Reading kept
    → SplitsTo reader.version input given kept → SplitsWithEnd reader.version input given end)
    → StreamHasEnded meaning start unread left before out state end
ended_of meaning start state unread now left before out reader end n piece so_far read none to_end stands =
    let nothing : Consumes now left [] = subst (λ k. Consumes now left (take k piece)) none read in record {
      input = so_far.input;
      frames = so_far.frames;
      text = so_far.text;
      read = subst (λ l. Consumes unread left l) (append-nil so_far.input)
          (Consumes-trans unread now left so_far.input [] so_far.read nothing);
      found = to_end;
      stands = rw so_far.version at (stands so_far.input so_far.frames so_far.kept so_far.reading
          (rw so_far.version so_far.given));
      answers = so_far.answers;
      written = so_far.written;
    }

-- a fault was found
pub ends_at : (meaning : Meanings) (start state : StateView) (unread left before after : Option (List ℕ)) (reader : FrameReaderView)
    (found : Option StreamFault) (fault : StreamFault) → found ≡ Some fault
    → ContinuesStream meaning start unread left before after state reader found
    → StreamHasEnded meaning start unread left before after state (Fault fault)
ends_at meaning start state unread left before after reader found fault is goes =
    subst (λ f. ContinuesStream meaning start unread left before after state reader f) is goes

-- none was found
pub goes_on : (meaning : Meanings) (start state : StateView) (unread left before after : Option (List ℕ)) (reader : FrameReaderView)
    (found : Option StreamFault) → found ≡ None
    → ContinuesStream meaning start unread left before after state reader found
    → UnderWay meaning start unread left before after state reader
goes_on meaning start state unread left before after reader found is goes =
    subst (λ f. ContinuesStream meaning start unread left before after state reader f) is goes

-- nothing more could be read
pub stopped_of : (meaning : Meanings) (start state : StateView) (unread now left before out : Option (List ℕ)) (reader : FrameReaderView)
    → UnderWay meaning start unread now before out state reader → Keeps now left
    → StreamHasStopped meaning start unread left before out state
stopped_of meaning start state unread now left before out reader so_far keeps = record {
  input = so_far.input;
  frames = so_far.frames;
  rest = so_far.kept;
  text = so_far.text;
  read = Consumes-kept unread now left so_far.input so_far.read keeps;
  stands = so_far.given.0;
  answers = some_all meaning start state (deliveries so_far.frames) so_far.text so_far.answers;
  written = all_some before out so_far.text so_far.written;
}

-- what a reader keeps
kept_of : ReaderState → List ℕ
kept_of (Reading kept) = kept
kept_of (Found found) = []
kept_of Failed = []

-- a stream of whole frames
pub whole_stands : (version : Version) (reader : ReaderState) (input kept : List ℕ) (given : List SignedStatement) → reader ≡ Reading []
    → reader ≡ Reading kept → SplitsTo version input given kept → SplitsWithEnd version input given Whole
unfolding kept_of
whole_stands version reader input kept given between reading splits =
    let none : kept ≡ [] = ap kept_of (sym reading ∙ between) in subst (λ k. SplitsTo version input given k) none splits

-- a stream that breaks off within a frame
pub cut_stands : (version : Version) (reader : ReaderState) (input kept : List ℕ) (given : List SignedStatement) → (reader ≡ Reading [] → ⊥)
    → reader ≡ Reading kept → SplitsTo version input given kept → SplitsWithEnd version input given Cut
cut_stands version reader input [] given within reading splits = absurd (within reading)
cut_stands version reader input (b ∷ bs) given within reading splits = (b ∷ bs, (splits, omega arith))
