use Rattle.statements.proofs.fields.take_signature_bytes.Goals as goal

pub returns-clause-read : goal.returns-clause-read
returns-clause-read c = rw (c.new-ahead.ensures, c.rest.ensures) at c.in_ok-bytes.ensures
