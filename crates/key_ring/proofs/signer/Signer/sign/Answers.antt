use Rattle.std.proofs.Common.{rules}
use Rattle.key_ring.proofs.signer.Signer.sign.Goals as goal

pub returns-then-leaf-leaves-clause-signs : goal.returns-then-leaf-leaves-clause-signs
returns-then-leaf-leaves-clause-signs c = search rules

pub returns-clause-signs : goal.returns-clause-signs
returns-clause-signs c = search rules

pub returns-clause-verifies : goal.returns-clause-verifies
returns-clause-verifies c = search rules
