use Rattle.std.proofs.Common.{inl, inr, subst}
use Rattle.std.proofs.KnownBytes.{Appends-trans}
use Rattle.std.specs.Io.KnownBytes.{Appends}
use Rattle.byte_streams.specs.Writing.{AppendsSome}
use Rattle.byte_streams.proofs.Faults.{on_error, passed}
use Rattle.byte_streams.proofs.WritingLemmas.{all_some, then_some}
use Rattle.history_audit.specs.Findings.{IsFinding}
use Rattle.printed_lines.specs.AuditLines.{finding_text}
use Rattle.cluster_service.specs.Lines.{commit_lines}
use Rattle.cluster_service.specs.RunFaults.{IsLineFault}
use Rattle.cluster_service.proofs.RunFaultLemmas.{audited_line, written_line}
use Rattle.cluster_service.proofs.writing.write_lines.Goals as goal

pub returns-in_err-write_commits-clause-written : goal.returns-in_err-write_commits-clause-written
returns-in_err-write_commits-clause-written g c =
    on_error _ _ c.from_residual.ensures.0
    (inl (subst (λ l. AppendsSome (g.W.Write.contents c.args.writer.now) (g.W.Write.contents c.write_commits.new.writer) (commit_lines 0 l))
    c.deref.ensures.value c.in_err-write_commits.ensures.written))

pub returns-in_err-finding-clause-written : goal.returns-in_err-finding-clause-written
returns-in_err-finding-clause-written g c =
    let before = g.W.Write.contents c.args.writer.now in
    let then = g.W.Write.contents c.write_commits.new.writer in
    on_error _ _ c.from_residual-in_err-finding.ensures.0
    (inl (all_some before then (commit_lines 0 c.args.left.now.heights.items)
    (subst (λ l. Appends before then (commit_lines 0 l)) c.deref.ensures.value c.in_ok-write_commits.ensures.written)))

pub returns-in_err-write_finding-clause-written : goal.returns-in_err-write_finding-clause-written
returns-in_err-write_finding-clause-written g c =
    let before = g.W.Write.contents c.args.writer.now in
    let then = g.W.Write.contents c.write_commits.new.writer in
    let after = g.W.Write.contents c.write_finding.new.writer in
    let finding = c.in_ok-finding.finding in
    on_error _ _ c.from_residual-in_err-write_finding.ensures.0
    (inr (
      finding,
      (
        subst (λ m. IsFinding (g.A.Application.meaning) c.args.config.now c.args.left.now.ring m finding) c.deref-2.ensures.value
            c.in_ok-finding.ensures.finds,
        then_some before then after (commit_lines 0 c.args.left.now.heights.items) (finding_text finding)
            (subst (λ l. Appends before then (commit_lines 0 l)) c.deref.ensures.value c.in_ok-write_commits.ensures.written)
            c.in_err-write_finding.ensures.written,
      ),
    ))

pub returns-clause-written : goal.returns-clause-written
returns-clause-written g c =
    let before = g.W.Write.contents c.args.writer.now in
    let then = g.W.Write.contents c.write_commits.new.writer in
    let after = g.W.Write.contents c.write_finding.new.writer in
    let finding = c.in_ok-finding.finding in (
      finding,
      (
        subst (λ m. IsFinding (g.A.Application.meaning) c.args.config.now c.args.left.now.ring m finding) c.deref-2.ensures.value
            c.in_ok-finding.ensures.finds,
        (
          c.finding_status.ensures,
          Appends-trans before then after (commit_lines 0 c.args.left.now.heights.items) (finding_text finding)
              (subst (λ l. Appends before then (commit_lines 0 l)) c.deref.ensures.value c.in_ok-write_commits.ensures.written)
              c.in_ok-write_finding.ensures.written,
        ),
      ),
    )

pub returns-in_err-write_commits-clause-fault : goal.returns-in_err-write_commits-clause-fault
returns-in_err-write_commits-clause-fault g c =
    passed _ _ IsLineFault c.from_residual.ensures.1 (written_line _ c.in_err-write_commits.ensures.fault)

pub returns-in_err-finding-clause-fault : goal.returns-in_err-finding-clause-fault
returns-in_err-finding-clause-fault g c =
    passed _ _ IsLineFault c.from_residual-in_err-finding.ensures.1 (audited_line _ c.in_err-finding.ensures.fault)

pub returns-in_err-write_finding-clause-fault : goal.returns-in_err-write_finding-clause-fault
returns-in_err-write_finding-clause-fault g c =
    passed _ _ IsLineFault c.from_residual-in_err-write_finding.ensures.1 (written_line _ c.in_err-write_finding.ensures.fault)
