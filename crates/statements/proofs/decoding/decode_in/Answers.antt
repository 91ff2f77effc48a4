use Rattle.std.proofs.Common.{arith}
use Rattle.statements.proofs.Grammar.{is_found, is_read}
use Rattle.statements.proofs.decoding.decode_in.Goals as goal

pub returns-clause-found : goal.returns-clause-found
returns-clause-found c = is_found c.args.version c.args.bytes.now c.whole_statement.result (λ i. omega (arith, c.type_inv.bytes i))
    c.whole_statement.ensures

pub returns-clause-only : goal.returns-clause-only
returns-clause-only c = is_read c.args.version c.args.bytes.now c.whole_statement.result c.whole_statement.ensures
