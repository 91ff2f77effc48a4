use Rattle.std.proofs.Common.{◌≡◌, ap, sym, ◌∙◌, subst}
use Rattle.std.specs.Prelude.{None}
use Rattle.std.proofs.lemmas.Result.{IfOk-weaker}
use Rattle.ledger_model.specs.Reading.{reading}
use Rattle.statements.specs.Reads.{IsFaultOf}
use Rattle.simulation.proofs.FirstServing.{of_frame, of_no_frame}
use Rattle.simulation.proofs.serving_reports.serving_bytes.Goals as goal

pub returns-in-Ok-clause-found : goal.returns-in-Ok-clause-found
returns-in-Ok-clause-found c =
    let reads = ap reading (sym c.in_ok-clone.ensures.cases) ∙ c.in-Ok.ensures.exact in
    IfOk-weaker c.serving_in.result _ _ (λ found is. is ∙ of_frame c.args.lie.now c.args.source c.args.replica c.args.bytes.now
    c.in-Ok.frame reads)
    c.serving_in.ensures.found

pub returns-in-Err-Malformed-clause-found : goal.returns-in-Err-Malformed-clause-found
returns-in-Err-Malformed-clause-found c =
    let none : reading c.in_ok-clone.field-0 ≡ None =
    subst (λ fault. IsFaultOf fault (reading c.in_ok-clone.field-0)) c.in-Err-Malformed.field-0-is c.in-Err-Malformed.ensures.exact in
    of_no_frame c.args.lie.now c.args.source c.args.replica c.args.bytes.now (ap reading (sym c.in_ok-clone.ensures.cases) ∙ none)
