use Rattle.ledger_model.specs.Reading.{statement_reading}
use Rattle.statements.proofs.decoding.whole_statement.Goals as goal
use Rattle.std.proofs.Common.{refl}

pub returns : goal.returns
unfolding statement_reading
returns c = rw (
  ← c.new-cursor.ensures,
  c.in_ok-statement.ensures,
  ← c.if-not-is_empty.ensures,
  ← c.version.ensures,
  ←
      c.if-not-reads.ensures,
) refl
