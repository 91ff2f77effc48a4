use Rattle.std.proofs.Common.{sym, ap, ◌∙◌}
use Rattle.ledger_model.proofs.Lists.{same_value-equal, same_value-refl}
use Rattle.ledger_model.specs.Values.{same_value}
use Rattle.cluster_workers.proofs.same_cluster.have_same_keys.Goals as goal

pub returns : goal.returns
returns c = (
  λ same. same_value-equal c.args.one.now c.args.other.now (sym c.eq.ensures ∙ same),
  λ same. c.eq.ensures ∙ ap (same_value c.args.one.now) (sym same) ∙ same_value-refl c.args.one.now,
)
