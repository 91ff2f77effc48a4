use Rattle.http_messages.specs.Metrics.{ignored_text}
use Rattle.http_messages.proofs.metrics.add_ignored_for.Goals as goal

pub returns : goal.returns
unfolding ignored_text
returns c = rw (c.cause_name-cause_name.ensures, c.ignored_for-value.ensures, c.number-replica.ensures) at c.write.ensures.bytes
