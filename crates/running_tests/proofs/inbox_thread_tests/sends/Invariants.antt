-- the pass is of the inbox
use Rattle.std.proofs.Common.{◌≡◌}
use Rattle.running_tests.proofs.inbox_thread_tests.sends.Given as goal

abbrev pub invariant-loop : goal.invariant-loop
invariant-loop g l = l.pass.inbox ≡ l.inbox
