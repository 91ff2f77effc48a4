use Rattle.program.proofs.replica.new_replica.Goals as goal

pub returns-in-Ok-new-clause-fresh : goal.returns-in-Ok-new-clause-fresh
returns-in-Ok-new-clause-fresh g c = rw (c.in-Ok.ensures.signer, c.in-Ok.ensures.whole) at c.in-Ok-new.ensures
