use Rattle.std.proofs.Common.{sym}
use Rattle.command_line.proofs.SourceLemmas.{other_digits}
use Rattle.command_line.proofs.key_sources.taken_by.Goals as goal

pub returns-in_default : goal.returns-in_default
returns-in_default c = sym (other_digits c.args.name.now c.in_default.not-cluster c.in_default.not-serve c.in_default.not-keys)
