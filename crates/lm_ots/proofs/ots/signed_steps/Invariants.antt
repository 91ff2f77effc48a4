-- the sum of the digits so far
use Rattle.std.proofs.Common.{◌≡◌, ◌*◌, ◌≤◌}
use Rattle.ledger_model.specs.Signatures.{coef, sum_up}
use Rattle.lm_ots.specs.Parameters.{bits_of}
use Rattle.lm_ots.proofs.ots.signed_steps.Given as goal

abbrev pub invariant-loop-index : goal.invariant-loop-index
invariant-loop-index l = record {
  total : l.steps ≡ sum_up (λ i. coef l.digits.bytes i (bits_of l.digits.params.width)) l.index;
  bounded : l.steps ≤ 255 * l.index;
}
