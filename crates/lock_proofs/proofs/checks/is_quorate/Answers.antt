use Rattle.std.proofs.Common.{rules}
use Rattle.lock_proofs.proofs.checks.is_quorate.Goals as goal

pub returns-then-do_signers_ascend : goal.returns-then-do_signers_ascend
returns-then-do_signers_ascend c = search rules
