use Rattle.ledger_model.specs.declared.version.Version.TheVariants.{Two}
use Rattle.std.proofs.Common.{ap, ◌∙◌}
use Rattle.ledger_model.specs.declared.statement.SignedStatement.{SignedStatement}
use Rattle.ledger_model.specs.declared.statement.Statement.{Statement}
use Rattle.signed_frames.proofs.FrameParts.{holds, last_is}
use Rattle.signed_frames.proofs.unsigned.UnsignedFrame.with_signature.Goals as goal

pub signed-requires-clause-stands : goal.signed-requires-clause-stands
signed-requires-clause-stands c = (c.self.inside.statement, c.self.invariant)

pub holding-requires : goal.holding-requires
holding-requires c =
    let u = c.self.inside in
    holds Two c.in_ok-bytes.bytes (record { statement = u.statement; signature = c.args.signature.now })
    (c.in_ok-bytes.ensures u.statement c.self.invariant)

pub returns : goal.returns
returns c =
    let u = c.self.inside in
    let with_signature : Statement → SignedStatement = λ x. record { statement = x; signature = c.args.signature.now } in
    c.holding.ensures ∙ last_is c.in_ok-bytes.bytes (with_signature u.statement) (c.in_ok-bytes.ensures u.statement c.self.invariant).1
    ∙ ap with_signature c.self.view_is
