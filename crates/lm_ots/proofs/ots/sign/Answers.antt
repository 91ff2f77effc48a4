use Rattle.lm_ots.proofs.ots.sign.Goals as goal

pub returns : goal.returns
returns c = rw c.in_ok-signature.ensures.items at c.append_signature.ensures.items
