use Rattle.std.proofs.Common.{ap, subst, sym, ◌∙◌}
use Rattle.std.specs.Prelude.{Err}
use Rattle.ledger_model.specs.Reading.{reading_in}
use Rattle.statements.specs.Reads.{IsReadingOr}
use Rattle.replica_core.proofs.Delivers.{malformed}
use Rattle.replica_core.proofs.replay.Replay.deliver.Goals as goal

-- src/delivering.rt:64:44
pub returns-in-Err-Malformed-clause-step : goal.returns-in-Err-Malformed-clause-step
returns-in-Err-Malformed-clause-step g c =
    let exact = subst (λ f. IsReadingOr (Err f) (reading_in c.self.inside.config.frames c.in_ok-clone.field-0)) c.in-Err-Malformed.field-0-is
    (c.in-Err-Malformed.ensures.exact)
    in
    malformed (g.A.Application.meaning) c.args.self.now c.args.bytes.now
    (ap (reading_in c.args.self.now.config.frames) (sym c.in_ok-clone.ensures.cases) ∙ (rw (sym c.self.view_is) exact))
