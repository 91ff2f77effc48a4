-- The laws of the grammar: reading inverts encoding, each encoding is of one thing, and no encoding is a proper prefix of another.
use Rattle.std.specs.Prelude.{◌≡◌, ◌⊎◌, ℕ, ◌<◌, List, ◌++◌, slice_index, Some, IsTrue}
use Rattle.ledger_model.specs.declared.statement.SignedStatement.{SignedStatement}
use Rattle.ledger_model.specs.declared.statement.Statement.{Statement}
use Rattle.ledger_model.specs.Spelling.{IsStatement, IsFrame, IsFrameIn, statement_bytes, body_bytes, frame_bytes, Spells, SpellsFrame}
use Rattle.ledger_model.specs.Reading.{reading_in, statement_reading, body_reading}
use Rattle.ledger_model.specs.Versions.{reads}
use Rattle.ledger_model.specs.Notes.{version_of}
use Rattle.ledger_model.specs.declared.version.Version.{Version}
use Rattle.ledger_model.specs.Streams.{SplitsTo, BreaksOff, BeginsTooLong, BeginsMalformed}

-- each number is a byte
abbrev pub IsBytes : List ℕ → Type 0
IsBytes bytes = (i : ℕ) → slice_index bytes i < 256

-- bytes that read as a frame are that frame's encoding, in each version
abbrev pub FramesReadAreSpelled : Type 0
FramesReadAreSpelled = (version : Version) (bytes : List ℕ) (s : SignedStatement) → IsBytes bytes → reading_in version bytes ≡ Some s
    → SpellsFrame version bytes s

-- bytes that read as a statement are that statement's encoding
abbrev pub StatementsReadAreSpelled : Type 0
StatementsReadAreSpelled =
    (version : Version) (bytes : List ℕ) (s : Statement) → IsBytes bytes → statement_reading version bytes ≡ Some s → Spells version bytes s

-- bytes that read as a frame's body are that body's encoding
abbrev pub BodiesReadAreSpelled : Type 0
BodiesReadAreSpelled =
    (version : Version) (bytes : List ℕ) (s : SignedStatement) → IsBytes bytes → body_reading version bytes ≡ Some s
    → IsFrameIn version s × (bytes ≡ body_bytes s)

-- a frame is read back from its encoding
abbrev pub FramesSpelledAreRead : Type 0
FramesSpelledAreRead = (version : Version) (s : SignedStatement) → IsFrameIn version s → reading_in version (frame_bytes s) ≡ Some s

-- a statement is read back from its encoding
abbrev pub StatementsSpelledAreRead : Type 0
StatementsSpelledAreRead =
    (version : Version) (s : Statement) → IsStatement s → IsTrue (reads version (version_of s))
    → statement_reading version (statement_bytes s) ≡ Some s

-- a frame's body is read back from its encoding
abbrev pub BodiesSpelledAreRead : Type 0
BodiesSpelledAreRead = (version : Version) (s : SignedStatement) → IsFrameIn version s → body_reading version (body_bytes s) ≡ Some s

-- if the same bytes start with two frames, the frames are equal: no frame's encoding is a proper prefix of another's
abbrev pub FramesPart : Type 0
FramesPart =
    (a b : SignedStatement) (rest more : List ℕ) → IsFrame a → IsFrame b
    → frame_bytes a ++ rest ≡ frame_bytes b ++ more → (a ≡ b) × (rest ≡ more)

-- if the same bytes start with two statements, the statements are equal
abbrev pub StatementsPart : Type 0
StatementsPart =
    (s t : Statement) (rest more : List ℕ) → IsStatement s → IsStatement t
    → statement_bytes s ++ rest ≡ statement_bytes t ++ more → (s ≡ t) × (rest ≡ more)

-- bytes encode at most one statement
abbrev pub OneStatement : Type 0
OneStatement = (s t : Statement) → IsStatement s → IsStatement t → statement_bytes s ≡ statement_bytes t → s ≡ t

-- a stream splits into frames in one way
abbrev pub OneSplit : Type 0
OneSplit =
    (version : Version) (bytes : List ℕ) (frames others : List SignedStatement) (rest more : List ℕ)
    → SplitsTo version bytes frames rest → SplitsTo version bytes others more → (frames ≡ others) × (rest ≡ more)

-- a stream that breaks off does so after the same frames and for the same reason
abbrev pub OneBreak : Type 0
OneBreak =
    (version : Version) (bytes : List ℕ) (frames others : List SignedStatement)
    → (BreaksOff BeginsTooLong version bytes frames → BreaksOff BeginsTooLong version bytes others → frames ≡ others)
    × (BreaksOff BeginsMalformed version bytes frames → BreaksOff BeginsMalformed version bytes others → frames ≡ others)
    × (BreaksOff BeginsTooLong version bytes frames → BreaksOff BeginsMalformed version bytes others → ⊥)

-- a stream that splits doesn't break off
abbrev pub SplitOrBreak : Type 0
SplitOrBreak =
    (version : Version) (bytes : List ℕ) (frames others : List SignedStatement) (rest : List ℕ) → SplitsTo version bytes frames rest
    → (BreaksOff BeginsTooLong version bytes others → ⊥) × (BreaksOff BeginsMalformed version bytes others → ⊥)

-- the bytes are these frames, followed by less than a whole frame or by bytes that no frame starts with
abbrev pub Ends : Version → List ℕ → List SignedStatement → Type 0
Ends version bytes frames =
    ((rest : List ℕ) × SplitsTo version bytes frames rest)
    ⊎ (BreaksOff BeginsTooLong version bytes frames ⊎ BreaksOff BeginsMalformed version bytes frames)

-- every stream either splits or breaks off
abbrev pub EveryStreamEnds : Type 0
EveryStreamEnds = (version : Version) (bytes : List ℕ) → IsBytes bytes → (frames : List SignedStatement) × Ends version bytes frames
