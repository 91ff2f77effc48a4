use Rattle.std.proofs.Common.{subst}
use Rattle.std.specs.Io.KnownBytes.{Appends}
use Rattle.std.specs.List.{flat_map}
use Rattle.std.proofs.lemmas.Result.{IfErr-weaker}
use Rattle.history_bytes.specs.Histories.{history_bytes}
use Rattle.byte_streams.specs.Writing.{AppendsSome}
use Rattle.byte_streams.proofs.Faults.{passed}
use Rattle.cluster_service.specs.HistoriesFiles.{file_bytes, file_path}
use Rattle.cluster_service.specs.Reporting.{WritesFinding}
use Rattle.cluster_service.specs.RunFaults.{IsLineFault, IsReportFault}
use Rattle.cluster_service.proofs.ReportingLemmas.{failed_with, report_saved, report_unsaved, taken_by}
use Rattle.cluster_service.proofs.RunFaultLemmas.{file_fault, line_fault}
use Rattle.cluster_service.proofs.subcommands.report.Goals as goal

pub returns-in_err-save_histories-clause-reports : goal.returns-in_err-save_histories-clause-reports
returns-in_err-save_histories-clause-reports g c =
    let s = c.args.settings.now in
    let left = c.args.left.now in
    let before = g.W.Write.contents c.args.writer.now in
    let after = g.W.Write.contents c.write_lines-written.new.writer in
    let empty = file_bytes c.args.file.now in
    let full = file_bytes c.save_histories.new.file in
    let taken = taken_by (g.A.Application.meaning) s left.ring left.histories.items left.heights.items c.requires.ring c.requires.taken in
    failed_with _ _ _ _ c.from_residual.ensures.1
    (report_unsaved (g.A.Application.meaning) s left.histories.items left.heights.items c.requires.each taken c.write_lines-written.result
    (file_path c.args.file.now) _
    before after empty full
    (subst (λ r. WritesFinding (g.A.Application.meaning) s.cluster.config r left.histories.items left.heights.items
    c.write_lines-written.result before after)
    c.requires.ring c.write_lines-written.ensures.written)
    c.in_err-save_histories.ensures.fault
    (subst (λ m. AppendsSome empty full (flat_map history_bytes m)) c.deref.ensures.value c.in_err-save_histories.ensures.written))

pub returns-clause-reports : goal.returns-clause-reports
returns-clause-reports g c =
    let s = c.args.settings.now in
    let left = c.args.left.now in
    let before = g.W.Write.contents c.args.writer.now in
    let after = g.W.Write.contents c.write_lines-written.new.writer in
    let empty = file_bytes c.args.file.now in
    let full = file_bytes c.save_histories.new.file in
    let taken = taken_by (g.A.Application.meaning) s left.ring left.histories.items left.heights.items c.requires.ring c.requires.taken in
    report_saved (g.A.Application.meaning) s left.histories.items left.heights.items c.requires.each taken c.write_lines-written.result
    before after empty full
    (subst (λ r. WritesFinding (g.A.Application.meaning) s.cluster.config r left.histories.items left.heights.items
    c.write_lines-written.result before after)
    c.requires.ring c.write_lines-written.ensures.written)
    c.write_lines-written.ensures.fault
    (subst (λ m. Appends empty full (flat_map history_bytes m)) c.deref.ensures.value c.in_ok-save_histories.ensures.written)

pub returns-in_err-save_histories-clause-fault : goal.returns-in_err-save_histories-clause-fault
returns-in_err-save_histories-clause-fault g c =
    let file = c.args.file.now in
    passed _ _ (IsReportFault file) c.from_residual.ensures.1 (file_fault file _ c.in_err-save_histories.ensures.fault)

pub returns-clause-fault : goal.returns-clause-fault
returns-clause-fault g c =
    let file = c.args.file.now in
    IfErr-weaker c.write_lines-written.result IsLineFault (IsReportFault file) (line_fault file) c.write_lines-written.ensures.fault
