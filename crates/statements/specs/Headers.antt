-- The fields that every statement starts with, in the record of the definitions.
use Rattle.ledger_model.specs.Reading as model
use Rattle.statements.specs.declared.headers.Header.{Header}

-- the header as a record of the definitions
abbrev pub header_of : Header → model.Header
header_of p = record { height = p.height; phase = p.phase; signer = p.signer }
