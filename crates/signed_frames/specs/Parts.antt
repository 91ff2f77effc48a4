-- The parts of a frame, and where they are in its bytes.
use Rattle.std.specs.Prelude.{◌≡◌, ℕ, ◌-◌, ◌≤◌, List, length, drop, Option, Some, Result, Ok, Err}
use Rattle.std.specs.Borrow.{Bor}
use Rattle.ledger_model.specs.declared.statement.SignedStatement.{SignedStatement}
use Rattle.ledger_model.specs.declared.statement.Statement.{Statement}
use Rattle.ledger_model.specs.declared.version.Version.TheVariants.{Two}
use Rattle.ledger_model.specs.Spelling.{statement_bytes, IsStatement, SpellsFrame}
use Rattle.statements.specs.declared.fault.DecodeFault.{DecodeFault}
use Rattle.statements.specs.Reads.{IsFaultOf}

-- the statement and the signature are those that the bytes read as, unless memory ran out
abbrev pub GivesParts : Result (Statement × Bor (List ℕ)) DecodeFault → Option SignedStatement → Type 0
GivesParts (Ok x) reading = reading ≡ Some (record { statement = x.0; signature = x.1.now })
GivesParts (Err fault) reading = IsFaultOf fault reading

-- the signed statement whose signature is the last `len` bytes
abbrev pub signed_by_last : List ℕ → Statement → ℕ → SignedStatement
signed_by_last bytes statement len = record { statement = statement; signature = drop (length bytes - len) bytes }

-- the bytes are four, followed by those of a statement that can be encoded
pub record HoldsStatement (bytes : List ℕ) (statement : Statement) : Type 0 where
  pub header : 4 ≤ length bytes
  pub behind : drop 4 bytes ≡ statement_bytes statement
  pub spelled : IsStatement statement

-- the bytes are a frame of the statement, and the signature is the last `len` bytes
pub record HoldsFrame (bytes : List ℕ) (statement : Statement) (len : ℕ) : Type 0 where
  pub spelled : SpellsFrame Two bytes (signed_by_last bytes statement len)
  pub signed : length (signed_by_last bytes statement len).signature ≡ len
