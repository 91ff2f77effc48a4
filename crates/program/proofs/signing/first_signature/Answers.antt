use Rattle.program.proofs.signing.first_signature.Goals as goal

pub returns-clause-signature : goal.returns-clause-signature
returns-clause-signature c = rw c.in_ok-signer.ensures at c.sign_first.ensures.signature

pub returns-clause-verifies : goal.returns-clause-verifies
returns-clause-verifies c = rw c.in_ok-signer.ensures at c.sign_first.ensures.verifies
