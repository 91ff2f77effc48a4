-- no lesser replica's history accepts such a statement
use Rattle.std.proofs.Common.{ℕ, ◌<◌}
use Rattle.ledger_model.specs.Audits.{IsUnsent}
use Rattle.history_audit.proofs.unsent.look_for_unsent.Given as goal

abbrev pub invariant-loop-number : goal.invariant-loop-number
invariant-loop-number l = (q j y : ℕ) → q < l.number → IsUnsent l.histories q j y → ⊥
