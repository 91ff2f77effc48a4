use Rattle.std.proofs.Common.{◌≡◌, true, refl, sym, ap, subst, ◌∙◌}
use Rattle.ledger_model.specs.declared.version.Version.{Version}
use Rattle.ledger_model.specs.Versions.{reads}
use Rattle.ledger_model.specs.Notes.{version_of}
use Rattle.ledger_model.proofs.VersionLaws.{reads_own}
use Rattle.ledger_model.specs.Spelling.{IsReport, IsSignature, IsStatement}
use Rattle.instance.proofs.SpelledRows.{keeps_report}
use Rattle.instance.proofs.height.Instance.put_report.Goals as goal

pub invariant_of-self : goal.invariant_of-self
invariant_of-self c =
    let i = c.self.invariant in
    let frame = c.statement.ensures.frame in
    let version = ap version_of c.in-Report.ensures ∙ (rw (sym c.self.view_is) at c.requires.version) in
    let read = subst (λ (v : Version). reads c.self.inside.config.frames v ≡ true) (sym version) (reads_own c.self.inside.config.frames) in
    let report : IsReport c.in-Report.report = subst IsStatement (sym c.in-Report.ensures) frame.statement in (
      i.0,
      i.1,
      c.add.ensures.places ∙ i.2,
      i.3,
      keeps_report i.4 _ _ _ refl (record {
        read = read;
        report = report;
        signature = subst IsSignature (sym c.requires.signature)
            frame.signature;
      })
          (rw (c.add.ensures.added) at c.add.ensures.after),
    )
