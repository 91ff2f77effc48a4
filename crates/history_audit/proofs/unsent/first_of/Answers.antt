use Rattle.std.proofs.Common.{sym, ap, subst, ◌∙◌}
use Rattle.std.specs.Prelude.{Some}
use Rattle.std.proofs.lemmas.Option.{slice_get-get_or}
use Rattle.history_audit.specs.Searches.{IsLeast}
use Rattle.ledger_model.specs.Audits.{unsent_in}
use Rattle.ledger_model.proofs.Lists.{get_take}
use Rattle.history_audit.proofs.unsent.first_of.Goals as goal

pub returns-in-Some : goal.returns-in-Some
returns-in-Some c = record {
  entry = c.index-entries-index.result;
  at = slice_get-get_or c.args.entries.now c.loop-index.index c.index-entries-index.result c.loop-index-test.true
      ∙ ap Some (sym c.index-entries-index.is);
  is_least = subst (IsLeast (unsent_in c.args.histories.now c.index-entries-index.result)) c.in-Some.is c.in_ok-signer.ensures;
  before = λ j y e less at has. c.loop-index.invariant j y e (get_take c.loop-index.index j c.args.entries.now less ∙ at) has;
}
