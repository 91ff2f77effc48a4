use Rattle.std.proofs.Common.{rules}
use Rattle.http_messages.proofs.values.with_spaces.Goals as goal

pub returns : goal.returns
returns c = search rules
