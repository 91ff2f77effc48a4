use Rattle.std.proofs.Common.{rules}
use Rattle.http_messages.specs.Metrics.{sample_text}
use Rattle.http_messages.proofs.metrics.add_sample.Goals as goal

pub returns : goal.returns
unfolding sample_text
returns c = search rules
