use Rattle.std.proofs.Common.{◌+◌, sym, ◌∙◌}
use Rattle.std.specs.Option.{option_copied}
use Rattle.instance.proofs.MaySend.{send_decides, own_if_sent}
use Rattle.instance.proofs.AtClock.{allows_at, allowed_at, signed_at}
use Rattle.instance.proofs.height.Instance.may_make.Goals as goal

pub returns-clause-may : goal.returns-clause-may
returns-clause-may c = λ ring log matches clock yes.
    allows_at ring c.args.self.now log c.args.clock matches clock _
    ((send_decides c.args.self.now (c.args.clock + 1) _).0 (sym c.may_send.ensures ∙ yes))

pub returns-clause-only : goal.returns-clause-only
returns-clause-only c = λ ring log matches clock may.
    c.may_send.ensures ∙ (send_decides c.args.self.now (c.args.clock + 1) _).1
    (allowed_at ring c.args.self.now log c.args.clock matches clock _ may)

pub returns-clause-proofs : goal.returns-clause-proofs
returns-clause-proofs c = λ ring log matches clock yes.
    signed_at ring c.args.self.now log c.args.clock matches clock _
    ((send_decides c.args.self.now (c.args.clock + 1) _).0 (sym c.may_send.ensures ∙ yes))

pub returns-clause-own : goal.returns-clause-own
returns-clause-own c = λ yes.
    own_if_sent c.args.self.now (c.args.clock + 1) (option_copied c.args.sent)
    ((send_decides c.args.self.now (c.args.clock + 1) _).0 (sym c.may_send.ensures ∙ yes))
