use Rattle.std.specs.Prelude.{IsTrue}
use Rattle.ledger_model.specs.declared.statement.Statement.{Statement}
use Rattle.ledger_model.specs.Versions.{reads}
use Rattle.ledger_model.specs.Notes.{version_of}
use Rattle.std.proofs.Common.{refl, sym, subst, ◌∙◌}
use Rattle.ledger_model.specs.Spelling.{IsReport, IsSignature, IsStatement}
use Rattle.instance.proofs.SpelledRows.{keeps_report}
use Rattle.instance.proofs.height.Instance.put_read_report.Goals as goal

pub invariant_of-self : goal.invariant_of-self
invariant_of-self c =
    let i = c.self.invariant in
    let frame = rw (sym c.self.view_is) at c.requires.frame in
    let report : IsReport c.in-Report.report = subst IsStatement (sym c.in-Report.ensures) c.requires.frame.statement in (
      i.0,
      i.1,
      c.add.ensures.places ∙ i.2,
      i.3,
      keeps_report i.4 _ _ _ refl (record {
        read = subst (λ (s : Statement). IsTrue (reads c.self.inside.config.frames (version_of s))) (sym c.in-Report.ensures) frame.read;
        report = report;
        signature =
            subst IsSignature (sym c.requires.signature) c.requires.frame.signature;
      }) (rw (c.add.ensures.added) at c.add.ensures.after),
    )
