use Rattle.std.proofs.Common.{rules}
use Rattle.http_messages.specs.Parameters.{optional_number}
use Rattle.http_messages.proofs.parameters.optional_number.Goals as goal

pub returns-in_default-clause-gives : goal.returns-in_default-clause-gives
unfolding optional_number
returns-in_default-clause-gives c = search rules
