-- a statement and a signature are never longer than a body may be
use Rattle.std.proofs.Common.{◌≡◌, ◌∙◌, length, true, Some, rules}
use Rattle.ledger_model.specs.Notes.{version_of}
use Rattle.ledger_model.specs.Reading.{statement_at, signature_at}
use Rattle.ledger_model.specs.Versions.{reads}
use Rattle.signed_frames.proofs.Sizes.{body_read}
use Rattle.signed_frames.proofs.parsing.parts_at.Goals as goal

statement : (c : goal.Else-not-reads)
    → statement_at c.in_ok-body.body.now ≡ Some (c.in_ok-statement.statement, c.take_statement.new.cursor)
statement c = search rules

signature : (c : goal.Else-not-reads)
    → signature_at c.take_statement.new.cursor ≡ Some (c.in_ok-signature.signature.now, c.take_signature_bytes.new.cursor)
signature c = search rules

ends : (c : goal.Else-not-reads) → length c.take_signature_bytes.new.cursor ≡ 0
ends c = search rules

carried : (c : goal.Else-not-reads) → reads c.args.version (version_of c.in_ok-statement.statement) ≡ true
carried c = search rules

pub returns : goal.returns
returns c =
    let body = c.in_ok-body.ensures.read c.args.version in
    let read = body_read c.args.version c.in_ok-body.body.now _ _ _ _ c.in_ok-body.ensures.bytes (statement c) (signature c) (ends c)
    (carried c) in
    body ∙ read
