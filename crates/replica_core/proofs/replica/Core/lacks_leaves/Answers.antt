use Rattle.std.proofs.Common.{◌≡◌, ◌+◌, ◌≤◌, ap, subst, sym, ◌∙◌}
use Rattle.std.specs.Prelude.{map}
use Rattle.std.proofs.Math.Dec.{ltb}
use Rattle.std.proofs.lemmas.Bool.{ltb-false}
use Rattle.key_ring.specs.Signers.{leaves_of}
use Rattle.height_row.specs.Heights.{height_plan}
use Rattle.replica_core.specs.Signing.{due_in}
use Rattle.replica_core.specs.RoundEnds.{due}
use Rattle.replica_core.specs.Cores.{CoreView, due_then}
use Rattle.replica_core.proofs.SignedPlans.{due_in-plans}
use Rattle.replica_core.proofs.Endings.{short_of}
use Rattle.replica_core.proofs.replica.Core.lacks_leaves.Goals as goal

pub returns-clause-lacks : goal.returns-clause-lacks
returns-clause-lacks g c =
    let plans = subst (λ (x : CoreView). c.args.plans.now ≡ map (height_plan (x.replay.clock + 1)) x.replay.rows) (sym c.self.view_is)
    c.requires.plans in
    let counted = c.count_due.ensures ∙ ap due_in plans ∙ due_in-plans (c.self.inside.replay.clock + 1) c.self.inside.replay.rows in
    rw (sym c.self.view_is)
    (ap (ltb c.leaves_left-left.result) counted
    ∙ short_of c.leaves_left-left.result (due (c.self.inside.replay.clock + 1) c.self.inside.replay.rows)
    (leaves_of c.self.inside.signer.secret) c.self.inside.signer.used c.leaves_left-left.ensures)

pub returns-clause-leaves : goal.returns-clause-leaves
returns-clause-leaves g c = λ enough.
    let plans = subst (λ (x : CoreView). c.args.plans.now ≡ map (height_plan (x.replay.clock + 1)) x.replay.rows) (sym c.self.view_is)
    c.requires.plans in
    let counted = c.count_due.ensures ∙ ap due_in plans ∙ due_in-plans (c.self.inside.replay.clock + 1) c.self.inside.replay.rows in
    subst (λ (x : CoreView). x.keys.used + due_then x ≤ leaves_of x.keys.secret) c.self.view_is
    (ltb-false (leaves_of c.self.inside.signer.secret)
    (c.self.inside.signer.used + due (c.self.inside.replay.clock + 1) c.self.inside.replay.rows)
    (sym (short_of c.leaves_left-left.result (due (c.self.inside.replay.clock + 1) c.self.inside.replay.rows)
    (leaves_of c.self.inside.signer.secret) c.self.inside.signer.used c.leaves_left-left.ensures)
    ∙ sym (ap (ltb c.leaves_left-left.result) counted) ∙ enough))
