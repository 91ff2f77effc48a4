use Rattle.std.proofs.Common.{rules}
use Rattle.http_messages.specs.Requests.{asked_by}
use Rattle.http_messages.proofs.asking.asked_by.Goals as goal

pub returns-clause-gives : goal.returns-clause-gives
unfolding asked_by
returns-clause-gives c = search rules
