use Rattle.ledger_model.proofs.FrameReading.{one_split, one_break, split_or_break}
use Rattle.ledger_laws.proofs.laws.streams_split_once.Goals as goal

pub returns-clause-split : goal.returns-clause-split
returns-clause-split c = one_split

pub returns-clause-broken : goal.returns-clause-broken
returns-clause-broken c = one_break

pub returns-clause-apart : goal.returns-clause-apart
returns-clause-apart c = split_or_break
