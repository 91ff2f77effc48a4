use Rattle.plain_text.proofs.escaped.EscapedByteDisplay.fmt.Goals as goal
use Rattle.plain_text.specs.Transactions.{byte_text}
use Rattle.std.proofs.Common.{arith}
use Rattle.std.proofs.lemmas.Fmt.{hex_byte}
use Rattle.std.proofs.lemmas.Grind.{common_steps}

pub returns-then-is_plain-clause-writes : goal.returns-then-is_plain-clause-writes
unfolding byte_text
returns-then-is_plain-clause-writes g c = grind (arith, common_steps)

pub returns-else-is_plain-clause-writes : goal.returns-else-is_plain-clause-writes
unfolding byte_text
returns-else-is_plain-clause-writes g c = grind (arith, hex_byte)
