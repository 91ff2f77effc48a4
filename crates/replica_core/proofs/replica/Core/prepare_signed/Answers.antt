use Rattle.std.proofs.Common.{◌≡◌, ◌+◌, ◌≤◌, false, refl, ap, subst, sym, ◌∙◌}
use Rattle.std.specs.Prelude.{map}
use Rattle.key_ring.specs.Signers.{leaves_of}
use Rattle.instance.specs.declared.round_plan.RoundPlan.{RoundPlan}
use Rattle.replica_core.specs.RoundEnds.{due}
use Rattle.replica_core.specs.Signing.{due_in}
use Rattle.replica_core.specs.Steps.{UsesLeaves}
use Rattle.replica_core.specs.ChosenEnds.{end_reply}
use Rattle.replica_core.specs.Cores.{CoreView, due_then}
use Rattle.replica_core.specs.PreparedEnds.{made_by_closings}
use Rattle.replica_core.proofs.SignedPlans.{due_in-plans}
use Rattle.replica_core.proofs.Endings.{planned_by, planned_ends, signed_own, signed_step, end_prepared}
use Rattle.replica_core.proofs.replica.Core.prepare_signed.Goals as goal

pub make_all-requires-clause-leaves : goal.make_all-requires-clause-leaves
make_all-requires-clause-leaves g c =
    let plans = planned_by c.args.self.now c.self.inside.replay c.self.inside.signer c.args.plans.items c.self.view_is c.requires.plans in
    let leaves = subst (λ (x : CoreView). x.keys.used + due_then x ≤ leaves_of x.keys.secret) (sym c.self.view_is) c.requires.leaves in
    subst (λ n. c.self.inside.signer.used + n ≤ leaves_of c.self.inside.signer.secret)
    (sym (ap due_in plans ∙ due_in-plans (c.self.inside.replay.clock + 1) c.self.inside.replay.rows)) leaves

pub prepare_round-requires-clause-endings : goal.prepare_round-requires-clause-endings
prepare_round-requires-clause-endings g c =
    let plans = planned_by c.args.self.now c.self.inside.replay c.self.inside.signer c.args.plans.items c.self.view_is c.requires.plans in
    c.in_ok-closings.ensures.endings ∙ ap (map (λ (p : RoundPlan). p.ending)) plans
    ∙ planned_ends (c.self.inside.replay.clock + 1) c.self.inside.replay.rows

pub prepare_round-requires-clause-own : goal.prepare_round-requires-clause-own
prepare_round-requires-clause-own g c =
    signed_own (g.A.Application.meaning) c.args.self.now c.self.inside.replay c.self.inside.signer c.args.plans.items
    c.in_ok-closings.closings.items c.self.view_is
    c.requires.limits c.requires.plans c.in_ok-closings.ensures.signs

pub returns-clause-prepared : goal.returns-clause-prepared
returns-clause-prepared g c =
    let plans = planned_by c.args.self.now c.self.inside.replay c.self.inside.signer c.args.plans.items c.self.view_is c.requires.plans in
    let ends = signed_step (g.A.Application.meaning) c.args.self.now c.self.inside.replay c.self.inside.signer c.args.plans.items
    c.in_ok-closings.closings.items
    c.self.view_is c.requires.limits c.requires.plans
    c.in_ok-closings.ensures.signs c.requires.clock c.requires.loud c.self.invariant c.in_ok-closings.ensures.frames
    c.in_ok-closings.ensures.verified in
    let used : c.make_all.new.signer ≡ record {
      secret = c.self.inside.signer.secret;
      used =
          c.self.inside.signer.used + due (c.self.inside.replay.clock + 1) c.self.inside.replay.rows;
    } =
    subst (λ n. c.make_all.new.signer ≡ record { secret = c.self.inside.signer.secret; used = c.self.inside.signer.used + n })
    (ap due_in plans ∙ due_in-plans (c.self.inside.replay.clock + 1) c.self.inside.replay.rows) c.in_ok-closings.ensures.used in
    rw (sym c.self.view_is)
    (end_prepared (g.A.Application.meaning) c.self.inside.replay c.self.inside.signer c.make_all.new.signer false
    c.in_ok-closings.closings.items
    c.prepare_round.result c.prepare_round.ensures.prepared c.prepare_round.ensures.ready ends.0
    (subst (UsesLeaves c.self.inside.signer c.self.inside.replay.clock
    (end_reply c.self.inside.replay false (made_by_closings c.in_ok-closings.closings.items))) (sym used) ends.1))

pub returns-clause-uses : goal.returns-clause-uses
returns-clause-uses g c =
    let plans = planned_by c.args.self.now c.self.inside.replay c.self.inside.signer c.args.plans.items c.self.view_is c.requires.plans in
    rw (sym c.self.view_is) (record {
      replay = refl;
      secret = c.make_all.ensures.secret;
      least = c.make_all.ensures.least;
      most = subst (λ n. c.make_all.new.signer.used ≤ c.self.inside.signer.used + n)
          (ap due_in plans ∙ due_in-plans (c.self.inside.replay.clock + 1) c.self.inside.replay.rows) c.make_all.ensures.most;
    })

pub returns-in_err-closings-clause-uses : goal.returns-in_err-closings-clause-uses
returns-in_err-closings-clause-uses g c =
    let plans = planned_by c.args.self.now c.self.inside.replay c.self.inside.signer c.args.plans.items c.self.view_is c.requires.plans in
    rw (sym c.self.view_is) (record {
      replay = refl;
      secret = c.make_all.ensures.secret;
      least = c.make_all.ensures.least;
      most = subst (λ n. c.make_all.new.signer.used ≤ c.self.inside.signer.used + n)
          (ap due_in plans ∙ due_in-plans (c.self.inside.replay.clock + 1) c.self.inside.replay.rows) c.make_all.ensures.most;
    })
