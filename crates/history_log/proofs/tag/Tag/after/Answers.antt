use Rattle.std.proofs.Common.{rules}
use Rattle.history_log.specs.Records.{tag_after}
use Rattle.history_log.proofs.tag.Tag.after.Goals as goal

pub returns : goal.returns
unfolding tag_after
returns c = search rules
