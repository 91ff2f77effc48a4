use Rattle.std.proofs.Common.{arith, rules}
use Rattle.std.proofs.lemmas.Grind.{common_steps}
use Rattle.tally.proofs.Readings.{signers_with, signers_without}
use Rattle.tally.proofs.places.Tally.signers.Goals as goal
use Rattle.tally.proofs.places.Tally.signers.Goals.{then-is_some+in_ok-push, else-is_some}

pub loop-signer-preserved : goal.loop-signer-preserved
loop-signer-preserved g c =
    elim c.if-is_some.branch [
      | then-is_some+in_ok-push w ↦ grind (rules, signers_with)
      | else-is_some w ↦ grind (rules, signers_without)
    ]

pub loop-signer-init : goal.loop-signer-init
loop-signer-init g c = search rules

pub returns : goal.returns
returns g c = grind (arith, common_steps)
