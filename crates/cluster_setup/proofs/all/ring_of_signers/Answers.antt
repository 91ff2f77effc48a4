use Rattle.std.proofs.Common.{arith}
use Rattle.std.proofs.lemmas.Grind.{common_steps}
use Rattle.cluster_setup.proofs.all.ring_of_signers.Goals as goal

pub loop-signer-preserved : goal.loop-signer-preserved
loop-signer-preserved c = grind (arith, common_steps)

pub returns : goal.returns
returns c = grind (arith, common_steps)
