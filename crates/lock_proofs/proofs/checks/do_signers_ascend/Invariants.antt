use Rattle.std.proofs.Common.{◌≡◌, ℕ, drop}
use Rattle.ledger_model.specs.Validity.{ascends_within, signers_of}
use Rattle.lock_proofs.proofs.SignerMasks.{IsBelow}
use Rattle.lock_proofs.proofs.checks.do_signers_ascend.Given as goal

-- the signers that are left have to ascend from the one after the mask's highest bit on
abbrev pub invariant-loop-signed : goal.invariant-loop-signed
invariant-loop-signed l =
    (least : ℕ)
    × (IsBelow least l.mask
    × (ascends_within least l.config.replicas (signers_of (drop l.signed-index l.reports))
    ≡ ascends_within 0 l.config.replicas (signers_of l.reports)))
