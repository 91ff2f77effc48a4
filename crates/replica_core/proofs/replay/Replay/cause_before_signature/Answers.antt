use Rattle.std.proofs.Common.{◌≡◌, [], sym, ap, subst, ◌∙◌}
use Rattle.instance.specs.Instances.{InstanceView}
use Rattle.ledger_model.specs.declared.statement.Statement.{Statement}
use Rattle.ledger_model.specs.Rules.{first_of, place_causes, is_repeated}
use Rattle.replica_core.specs.Replays.{ReplayView}
use Rattle.replica_core.proofs.Placing.{judged_before}
use Rattle.replica_core.proofs.replay.Replay.cause_before_signature.Goals as goal

pub returns : goal.returns
returns g c = λ entries matches.
    let s : Statement = c.args.frame.now.statement in
    let row : InstanceView = c.in_ok-find_place.field-0.now in
    let place = c.in_ok-find_place.ensures in
    let clock : c.self.inside.clock ≡ c.args.self.now.clock = ap (λ (x : ReplayView). x.clock) c.self.view_is in
    judged_before (g.A.Application.meaning) c.args.self.now s entries matches place.signer row c.judge.result place.row
    (place.own row place.row)
    (λ ring log m now.
    subst (λ n. c.judge.result ≡ first_of (place_causes row.config n (is_repeated log s) s [])) clock
    (subst (λ t. c.judge.result ≡ first_of (place_causes row.config c.self.inside.clock (is_repeated log t) t []))
    c.statement.ensures.statement
    (c.judge.ensures ring log m (now ∙ sym clock))))
