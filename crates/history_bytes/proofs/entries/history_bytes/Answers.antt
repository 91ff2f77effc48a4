use Rattle.std.proofs.Common.{rules}
use Rattle.history_bytes.specs.Histories.{history_bytes}
use Rattle.history_bytes.proofs.entries.history_bytes.Goals as goal

pub returns : goal.returns
unfolding history_bytes
returns c = search rules
