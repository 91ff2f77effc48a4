use Rattle.std.proofs.Common.{◌≡◌, ◌++◌, ◌∷◌, [], ℕ, List, append-nil, sym, ap, subst, ◌∙◌}
use Rattle.std.specs.Prelude.{Some, None}
use Rattle.ledger_model.specs.declared.statement.Report.{Report}
use Rattle.ledger_model.specs.declared.statement.Statement.TheVariants as statement
use Rattle.ledger_model.specs.Reading.{reading}
use Rattle.statements.specs.Reads.{IsFaultOf}
use Rattle.simulation.specs.declared.report_list.ReportFrame.{ReportFrame}
use Rattle.simulation.proofs.Indexing.{of_report, of_other, of_no_frame}
use Rattle.simulation.proofs.report_list.add_frame.Goals as goal

-- the frame of this report
framed : Report → List ℕ → ReportFrame
framed r bytes = record { signer = r.signer; height = r.height; phase = r.phase; frame = bytes }

pub returns-in-Report : goal.returns-in-Report
unfolding framed
returns-in-Report c =
    let reads : reading c.args.bytes.now ≡ Some c.in-Ok.frame = ap reading (sym c.in_ok-clone.ensures.cases) ∙ c.in-Ok.ensures.exact in
    let is : c.in-Ok.frame.statement ≡ statement.Report c.in-Report.report = sym c.statement.ensures.statement ∙ c.in-Report.is in
    c.in_ok-push-in-Report.ensures.items
    ∙ ap (λ b. c.args.reports.now.items ++ framed c.in-Report.report b ∷ []) c.in_ok-clone-in-Report.ensures.cases
    ∙ ap (λ l. c.args.reports.now.items ++ l) (sym (of_report c.args.bytes.now c.in-Ok.frame c.in-Report.report reads is))

pub returns-in-Ok : goal.returns-in-Ok
returns-in-Ok c =
    let reads : reading c.args.bytes.now ≡ Some c.in-Ok.frame = ap reading (sym c.in_ok-clone.ensures.cases) ∙ c.in-Ok.ensures.exact in
    sym (append-nil c.args.reports.now.items)
    ∙ ap (λ l. c.args.reports.now.items ++ l)
    (sym (of_other c.args.bytes.now c.in-Ok.frame reads (λ r is. c.in_default.not-Report r (c.statement.ensures.statement ∙ is))))

pub returns-in-Err-Malformed : goal.returns-in-Err-Malformed
returns-in-Err-Malformed c =
    let none : reading c.in_ok-clone.field-0 ≡ None =
    subst (λ fault. IsFaultOf fault (reading c.in_ok-clone.field-0)) c.in-Err-Malformed.field-0-is c.in-Err-Malformed.ensures.exact in
    sym (append-nil c.args.reports.now.items)
    ∙ ap (λ l. c.args.reports.now.items ++ l)
    (sym (of_no_frame c.args.bytes.now (ap reading (sym c.in_ok-clone.ensures.cases) ∙ none)))
