use Rattle.simulation.proofs.Indexing.{history_fresh}
use Rattle.simulation.proofs.report_list.ReportList.follow_history.Goals as goal

pub returns-in-Err-clause-covers : goal.returns-in-Err-clause-covers
returns-in-Err-clause-covers g c = history_fresh c.clear.new.self c.args.state.now.entries c.clear.ensures.seen c.clear.ensures.reports
