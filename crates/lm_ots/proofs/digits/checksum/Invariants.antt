-- the sum of what the digits so far lack
use Rattle.std.proofs.Common.{◌≡◌, ◌-◌, ◌*◌, ◌^◌, ◌≤◌}
use Rattle.ledger_model.specs.Signatures.{coef, sum_up}
use Rattle.lm_ots.specs.Parameters.{bits_of}
use Rattle.lm_ots.proofs.digits.checksum.Given as goal

abbrev pub invariant-loop-index : goal.invariant-loop-index
invariant-loop-index l = record {
  total : l.sum ≡ sum_up (λ i. 2 ^ bits_of l.width - 1 - coef l.digest i (bits_of l.width)) l.index;
  bounded : l.sum ≤ (2 ^ bits_of l.width - 1) * l.index;
}
