use Rattle.std.proofs.Common.{◌≡◌, drop}
use Rattle.ledger_model.specs.Validity.{ascends_within, signers_of}
use Rattle.statements.proofs.locks.do_signers_ascend.Given as goal

abbrev pub invariant-loop-signed : goal.invariant-loop-signed
invariant-loop-signed l = ascends_within l.low 256 (signers_of (drop l.signed-index l.reports))
    ≡ ascends_within 0 256 (signers_of l.reports)
