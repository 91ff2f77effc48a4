use Rattle.std.proofs.Common.{◌≡◌, sym, ◌∙◌, rules}
use Rattle.std.specs.Prelude.{is_some, count_by}
use Rattle.instance.specs.declared.round_plan.RoundPlan.{RoundPlan}
use Rattle.replica_core.proofs.SignedPlans.{due_in-count}
use Rattle.replica_core.proofs.signing.count_due.Goals as goal

pub returns : goal.returns
returns c =
    let counted : c.count.result ≡ count_by (λ (plan : RoundPlan). is_some plan.statement) c.args.plans.now = search rules in
    counted ∙ sym (due_in-count c.args.plans.now)
