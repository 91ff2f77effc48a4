use Rattle.std.proofs.Common.{rules}
use Rattle.command_line.proofs.refused_words.operand.Goals as goal

pub returns-else-starts_with-clause-plain : goal.returns-else-starts_with-clause-plain
returns-else-starts_with-clause-plain c = search rules
