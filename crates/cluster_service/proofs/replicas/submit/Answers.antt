use Rattle.std.proofs.Common.{subst, ◌∙◌}
use Rattle.cluster_service.proofs.Begun.{Goes, first_goes}
use Rattle.cluster_service.proofs.replicas.submit.Goals as goal

pub returns-in-Ok-clause-begun : goal.returns-in-Ok-clause-begun
returns-in-Ok-clause-begun g c =
    let cluster = c.args.cluster.now in
    let id = c.args.state.now.id in
    let given = c.in-Ok.ensures in
    let applied = given.applied in
    let goes : Goes (g.A.Application.meaning) c.args.state.now c.apply.new.self c.in_ok-tx.tx applied.reply = record {
      added = applied.added;
      lawful = applied.lawful;
      uses = applied.leaves;
      rest = applied.rest;
      alone = given.sound.machine;
    } in
    let answered = subst (λ tx. Goes (g.A.Application.meaning) c.args.state.now c.apply.new.self tx applied.reply)
    (c.in_ok-tx.ensures ∙ c.as_bytes.ensures.bytes) goes in
    first_goes (g.A.Application.meaning) cluster c.args.tx.now id c.apply.new.self applied.reply
    (subst (λ s. Goes (g.A.Application.meaning) s c.apply.new.self c.args.tx.now applied.reply) c.requires.fresh answered)
