-- A stream of frames, cut into pieces anywhere: the frames that it contains, and the bytes after the last one.
use Rattle.std.specs.Prelude.{◌≡◌, ◌⊎◌, ℕ, ◌+◌, ◌<◌, ◌≤◌, List, length, take, drop, None}
use Rattle.std.specs.Int.{w32, from_be_bytes}
use Rattle.ledger_model.specs.declared.statement.SignedStatement.{SignedStatement}
use Rattle.ledger_model.specs.Spelling.{Frames}
use Rattle.ledger_model.specs.Reading.{body_reading}
use Rattle.ledger_model.specs.Versions.{body_limit}
use Rattle.ledger_model.specs.declared.version.Version.{Version}

-- the length that a frame announces for its body
abbrev pub announced : List ℕ → ℕ
announced bytes = from_be_bytes w32 (take 4 bytes)

-- less than a whole frame of this version: not even its length, or a possible length and not the whole body
abbrev pub IsPartial : Version → List ℕ → Type 0
IsPartial version bytes = (length bytes < 4) ⊎ ((announced bytes ≤ body_limit version) × (length bytes < 4 + announced bytes))

-- the bytes start with a length that no frame of this version has
abbrev pub BeginsTooLong : Version → List ℕ → Type 0
BeginsTooLong version bytes = (4 ≤ length bytes) × (body_limit version < announced bytes)

-- the bytes start with a whole body that encodes nothing that a frame of this version has
abbrev pub BeginsMalformed : Version → List ℕ → Type 0
BeginsMalformed version bytes =
    (4 ≤ length bytes) × (announced bytes ≤ body_limit version) × (4 + announced bytes ≤ length bytes)
    × (body_reading version (take (announced bytes) (drop 4 bytes)) ≡ None)

-- the bytes are these frames of this version, followed by less than a whole frame
abbrev pub SplitsTo : Version → List ℕ → List SignedStatement → List ℕ → Type 0
SplitsTo version bytes frames rest = Frames version bytes frames rest × IsPartial version rest

-- the bytes are these frames of this version, followed by bytes that no frame of it starts with
abbrev pub BreaksOff : (Version → List ℕ → Type 0) → Version → List ℕ → List SignedStatement → Type 0
BreaksOff Begins version bytes frames = (rest : List ℕ) × (Frames version bytes frames rest × Begins version rest)
