use Rattle.simulation.proofs.Indexing.{frames_fresh}
use Rattle.simulation.proofs.report_list.ReportList.follow_frames.Goals as goal

pub returns-in-Err-clause-covers : goal.returns-in-Err-clause-covers
returns-in-Err-clause-covers c = frames_fresh c.clear.new.self c.args.frames.now c.clear.ensures.seen c.clear.ensures.reports
