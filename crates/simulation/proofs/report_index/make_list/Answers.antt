use Rattle.std.proofs.Common.{refl}
use Rattle.simulation.proofs.Indexing.{index_longer}
use Rattle.simulation.proofs.report_index.make_list.Goals as goal

pub returns-in_ok-push-clause-index : goal.returns-in_ok-push-clause-index
returns-in_ok-push-clause-index c = λ w lies is.
    index_longer c.args.index.now (record { sent = c.push.new.self; lies = c.args.index.now.lies }) c.new.result w lies is
    c.in_ok-push.ensures.items refl c.new.ensures.seen c.new.ensures.reports
