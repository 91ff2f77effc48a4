use Rattle.std.proofs.Common.{◌≡◌}
use Rattle.running_tests.proofs.inbox_tests.fills.Given as goal

abbrev pub invariant-loop-k : goal.invariant-loop-k
invariant-loop-k g l = l.pass.inbox ≡ l.inbox
