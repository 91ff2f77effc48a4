use Rattle.std.proofs.Common.{sym, ◌∙◌}
use Rattle.lock_proofs.specs.LockFrames.{lock_in}
use Rattle.lock_proofs.proofs.FirstFaults.{valid, accepted}
use Rattle.lock_proofs.proofs.lock_frame.check_lock_with.Goals as goal

pub returns-in_err-examine-clause-only : goal.returns-in_err-examine-clause-only
returns-in_err-examine-clause-only g c signed is_valid =
    let good = accepted c.args.config.now (g.C.CheckSignatures.ring c.args.checks.now) (lock_in c.args.frame) signed is_valid in
    let bad = sym c.examine.ensures.fault ∙ c.in_err-examine.was in
    absurd (cc (good, bad))

pub returns-clause-valid : goal.returns-clause-valid
returns-clause-valid g c =
    valid c.args.config.now (g.C.CheckSignatures.ring c.args.checks.now) (lock_in c.args.frame)
    (sym c.examine.ensures.fault ∙ c.in_ok-examine.was)
