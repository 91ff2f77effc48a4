use Rattle.std.proofs.Common.{sym, subst, arith}
use Rattle.std.proofs.lemmas.Grind.{common_steps, elements}
use Rattle.cluster_workers.specs.RunningClusters.{AreDealt, AreReadersOf}
use Rattle.cluster_workers.proofs.running_cluster.RunningCluster.new.Goals as goal

pub returns-in_err-board-clause-reader_count : goal.returns-in_err-board-clause-reader_count
returns-in_err-board-clause-reader_count g c = grind (arith, common_steps)

pub returns-in_err-board-clause-readers : goal.returns-in_err-board-clause-readers
returns-in_err-board-clause-readers g c = grind (arith, common_steps)

pub returns-in_err-board-clause-replicas : goal.returns-in_err-board-clause-replicas
returns-in_err-board-clause-replicas g c = grind (arith, common_steps)

pub returns-in_err-replicas-clause-reader_count : goal.returns-in_err-replicas-clause-reader_count
returns-in_err-replicas-clause-reader_count g c = grind (arith, common_steps)

pub returns-in_err-replicas-clause-readers : goal.returns-in_err-replicas-clause-readers
returns-in_err-replicas-clause-readers g c = grind (arith, common_steps)

pub returns-in_err-replicas-clause-replicas : goal.returns-in_err-replicas-clause-replicas
returns-in_err-replicas-clause-replicas g c = grind (arith, common_steps)

pub returns-in_err-workers-clause-reader_count : goal.returns-in_err-workers-clause-reader_count
returns-in_err-workers-clause-reader_count g c = grind (arith, common_steps)

pub returns-in_err-workers-clause-readers : goal.returns-in_err-workers-clause-readers
returns-in_err-workers-clause-readers g c = grind (arith, common_steps)

pub returns-in_err-workers-clause-replicas : goal.returns-in_err-workers-clause-replicas
returns-in_err-workers-clause-replicas g c = grind (arith, common_steps)

pub returns-clause-readers : goal.returns-clause-readers
returns-clause-readers g c = grind (arith, elements)

pub workers_of-requires-clause-seats : goal.workers_of-requires-clause-seats
workers_of-requires-clause-seats g c =
    subst (λ b. AreDealt b 0 c.args.config.now.replicas c.in_ok-board.seats.items) (sym c.in_ok-board-2.ensures.ok)
    c.in_ok-board.ensures.writers

pub workers_of-requires-clause-looking : goal.workers_of-requires-clause-looking
workers_of-requires-clause-looking g c =
    subst (λ b. AreReadersOf b c.args.config.now.replicas c.in_ok-board.looking.items) (sym c.in_ok-board-2.ensures.ok)
    c.in_ok-board.ensures.looking
