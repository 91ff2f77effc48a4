use Rattle.ledger_model.specs.Spelling.{signed_bytes}
use Rattle.statements.proofs.Joins.{joins_one}
use Rattle.statements.proofs.encoding.put_reports.Goals as goal
use Rattle.std.proofs.Common.{arith}
use Rattle.std.proofs.lemmas.Grind.{common_steps}

pub loop-signed-preserved : goal.loop-signed-preserved
loop-signed-preserved c =
    joins_one signed_bytes c.args.out.now.items c.args.reports.now c.loop-signed.signed-index c.signed-item.result c.loop-signed-test.true
    c.signed-item.is c.loop-signed.invariant c.in_ok-put_signed.ensures

pub put_signed-requires : goal.put_signed-requires
put_signed-requires c = grind (arith, common_steps)

pub returns : goal.returns
returns c = grind (arith, common_steps)
