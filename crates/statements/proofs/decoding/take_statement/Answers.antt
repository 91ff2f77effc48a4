use Rattle.statements.proofs.decoding.take_statement.Goals as goal

pub returns-clause-read : goal.returns-clause-read
returns-clause-read c = rw (c.new-ahead.ensures, c.rest.ensures) at c.in_ok-statement.ensures
