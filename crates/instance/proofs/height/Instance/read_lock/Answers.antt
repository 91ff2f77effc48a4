use Rattle.std.proofs.Common.{◌≡◌, rules, sym, subst, ap, ◌∙◌}
use Rattle.std.specs.Prelude.{Ok, Err}
use Rattle.ledger_model.specs.declared.statement.SignedStatement.{SignedStatement}
use Rattle.ledger_model.specs.Rules.{first_of}
use Rattle.ledger_model.specs.Spelling.{IsFrameIn}
use Rattle.ledger_model.proofs.VersionLaws.{value_within}
use Rattle.lock_proofs.specs.Faults.{faults}
use Rattle.lock_proofs.specs.LockFrames.{lock_in}
use Rattle.instance.specs.Instances.{InstanceView}
use Rattle.instance.proofs.AtClock.{by_row}
use Rattle.instance.proofs.KindCauses.{lock_fault, lock_room}
use Rattle.instance.proofs.height.Instance.read_lock.Goals as goal

pub returns-in-Err-clause-answer : goal.returns-in-Err-clause-answer
returns-in-Err-clause-answer g c =
    ap Err c.cause_of.ensures
    ∙ lock_fault c.args.self.now (g.C.CheckSignatures.ring c.args.checks.now) c.args.round c.args.frame.statement c.args.frame.signature
    c.in-Err.fault c.requires.kind
    c.requires.owner (search rules)

pub read_valid-requires-clause-fits : goal.read_valid-requires-clause-fits
read_valid-requires-clause-fits g c =
    let frame = subst (IsFrameIn c.args.self.now.config.frames) (sym c.in-Ok.ensures.lock) c.requires.frame in
    value_within c.args.self.now.config.frames c.in-Ok.lock.lock.version c.in-Ok.lock.lock.value frame.read frame.statement.value

pub returns-in-Ok-clause-answer : goal.returns-in-Ok-clause-answer
returns-in-Ok-clause-answer g c =
    let valid = subst (λ (s : SignedStatement). Ok tt ≡ first_of
    (faults c.self.inside.config (g.C.CheckSignatures.ring c.args.checks.now) (lock_in s)))
    (sym c.in-Ok.ensures.lock) c.in-Ok.ensures.fault in
    rw (sym c.in-Ok.ensures.lock)
    (by_row c.read_valid.result _ _ c.read_valid.ensures.answer
    (lock_room c.args.self.now (g.C.CheckSignatures.ring c.args.checks.now) c.args.round c.in-Ok.lock
    (subst (λ (row : InstanceView). Ok tt ≡ first_of (faults row.config
    (g.C.CheckSignatures.ring c.args.checks.now) c.in-Ok.lock)) c.self.view_is valid)))

pub returns-in-Ok-clause-after : goal.returns-in-Ok-clause-after
returns-in-Ok-clause-after g c = rw (sym c.in-Ok.ensures.lock) c.read_valid.ensures.after
