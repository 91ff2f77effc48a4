use Rattle.std.proofs.Common.{rules}
use Rattle.http_messages.specs.Texts.{json_value}
use Rattle.http_messages.proofs.texts.value.Goals as goal

pub returns-in-None : goal.returns-in-None
unfolding json_value
returns-in-None c = search rules
