use Rattle.std.proofs.Common.{rules}
use Rattle.lock_proofs.proofs.lock_frame.examine.Goals as goal

pub returns-then-not-is_quorate : goal.returns-then-not-is_quorate
returns-then-not-is_quorate c = search rules

pub returns : goal.returns
returns c = search rules

pub returns-then-not-is_signed : goal.returns-then-not-is_signed
returns-then-not-is_signed c = search rules
