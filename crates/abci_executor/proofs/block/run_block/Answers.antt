use Rattle.std.proofs.Common.{◌+◌, ap, rules}
use Rattle.abci_executor.proofs.Blocks.{runs_block, adds_block}
use Rattle.abci_executor.proofs.block.run_block.Goals as goal

pub returns-clause-ok : goal.returns-clause-ok
returns-clause-ok g c =
    adds_block (g.A.Application.meaning) (g.A.Application.machine c.args.app.now)
    (g.A.Application.machine c.commit-hash.new.self) c.args.batch.now
    (record { height = c.new-height.result; codes = c.in_ok-codes.codes; hash = c.commit-hash.result })
    (runs_block (g.A.Application.meaning) (g.A.Application.machine c.args.app.now) (g.A.Application.machine c.begin_block.new.self)
    (g.A.Application.machine c.deliver_all.new.app) (g.A.Application.machine c.end_block.new.self)
    (g.A.Application.machine c.commit-hash.new.self)
    c.args.batch.now c.new-height.result c.in_ok-codes.codes c.commit-hash.result
    (rw c.new-height.ensures (ap (λ n. n + 1) c.info.ensures.0)) c.in_ok-begin_block.ensures.ok
    (rw (← c.transactions-2.ensures.transactions) c.in_ok-codes.ensures.ok) c.in_ok-end_block.ensures.ok c.commit-hash.ensures)

pub returns-in_err-room-clause-err : goal.returns-in_err-room-clause-err
returns-in_err-room-clause-err g c = search rules
