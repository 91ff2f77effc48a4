use Rattle.command_line.proofs.NumberLemmas.{checked_at_opening}
use Rattle.command_line.proofs.options.check_code.Goals as goal

pub returns : goal.returns
returns g c = checked_at_opening (g.A.Application.meaning) (g.A.Application.machine c.opening.result) c.args.kind c.args.tx.now
    c.check_tx.result c.check_tx.ensures
    c.opening.ensures
