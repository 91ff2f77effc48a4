use Rattle.std.proofs.Common.{inl, inr, refl}
use Rattle.std.proofs.KnownBytes.{Keeps-refl}
use Rattle.std.specs.Prelude.{Ok, Err}
use Rattle.byte_streams.proofs.Faults.{passed}
use Rattle.cluster_service.specs.HistoriesFiles.{file_bytes}
use Rattle.cluster_service.specs.RunFaults.{EndsCluster}
use Rattle.cluster_service.proofs.ReportingLemmas.{failed_with, nothing_ran, ran}
use Rattle.cluster_service.proofs.subcommands.serve.Goals as goal

pub returns-in_err-stop-clause-reports : goal.returns-in_err-stop-clause-reports
returns-in_err-stop-clause-reports g c = failed_with _ _ _ _ c.from_residual.ensures.1
    (nothing_ran (g.A.Application.meaning) c.args.settings.now.cluster _ (g.W.Write.contents c.args.writer.now)
    (file_bytes c.args.file.now) c.in_err-stop.ensures)

pub returns-in_err-stop-clause-fault : goal.returns-in_err-stop-clause-fault
returns-in_err-stop-clause-fault g c =
    let a = g.W.Write.contents c.args.writer.now in
    let empty = c.args.file.now in
    passed _ c.in_err-stop.field-0.0 (EndsCluster empty empty a a) c.from_residual.ensures.1
    (inr (c.in_err-stop.ensures, (Keeps-refl a, refl)))

pub returns-in_err-left-clause-reports : goal.returns-in_err-left-clause-reports
returns-in_err-left-clause-reports g c = failed_with _ _ _ _ c.from_residual-in_err-left.ensures.1
    (nothing_ran (g.A.Application.meaning) c.args.settings.now.cluster _ (g.W.Write.contents c.args.writer.now)
    (file_bytes c.args.file.now) c.in_err-left.ensures.fault)

pub returns-in_err-left-clause-fault : goal.returns-in_err-left-clause-fault
returns-in_err-left-clause-fault g c =
    let a = g.W.Write.contents c.args.writer.now in
    let empty = c.args.file.now in
    passed _ c.in_err-left.field-0.0 (EndsCluster empty empty a a) c.from_residual-in_err-left.ensures.1
    (inr (c.in_err-left.ensures.fault, (Keeps-refl a, refl)))

pub returns-in_err-ended-clause-reports : goal.returns-in_err-ended-clause-reports
returns-in_err-ended-clause-reports g c = failed_with _ _ _ _ c.from_residual-in_err-ended.ensures.1
    (ran (g.A.Application.meaning) c.args.settings.now.cluster (Err c.in_err-ended.field-0.0) _ _ _ _ c.in_err-ended.ensures.reports)

pub returns-in_err-ended-clause-fault : goal.returns-in_err-ended-clause-fault
returns-in_err-ended-clause-fault g c =
    let empty = c.args.file.now in
    passed _ c.in_err-ended.field-0.0
    (EndsCluster empty c.report.new.file (g.W.Write.contents c.args.writer.now) (g.W.Write.contents c.report.new.writer))
    c.from_residual-in_err-ended.ensures.1 (inl c.in_err-ended.ensures.fault)

pub returns-clause-reports : goal.returns-clause-reports
returns-clause-reports g c = ran (g.A.Application.meaning) c.args.settings.now.cluster
    (Ok c.in_ok-ended.ended) _ _ _ _ c.in_ok-ended.ensures.reports
