use Rattle.std.proofs.Common.{◌≡◌, [], length, sym, ap, subst, ◌∙◌, arith}
use Rattle.std.specs.Vec.Iter.{into_iter_items}
use Rattle.std.proofs.lemmas.List.Elements.{All-same}
use Rattle.ledger_model.specs.Applications.{run}
use Rattle.cluster_setup.specs.Keys.{secret_of}
use Rattle.adversary_net.specs.WorldViews.{IsCluster, world_of}
use Rattle.adversary_net.proofs.Beginning.{new_is, new_is_cluster, new_world, correct_replicas}
use Rattle.adversary_net.proofs.world.World.new.Goals as goal

pub parties_of-requires-clause-supply : goal.parties_of-requires-clause-supply
parties_of-requires-clause-supply g c =
    let may = c.in_ok-check_liars.ensures.may in
    record {
      an_app = omega (arith, ap length c.into_iter.ensures.rest, c.args.apps.ok, c.requires.apps may);
      a_pair = omega (arith, ap length c.into_iter-2.ensures.rest, c.args.randoms.ok, c.requires.randoms may);
      opening = All-same (λ a. g.A.Application.machine a ≡ run (g.A.Application.meaning) c.args.cluster.now.config.kind [])
          (into_iter_items c.into_iter.result)
          c.args.apps.items c.into_iter.ensures.rest c.requires.opening;
    }

pub invariant_of-result : goal.invariant_of-result
invariant_of-result g c =
    let is = new_is (g.A.Application.meaning) c.args.cluster.now.config
    (secret_of c.args.cluster.now) c.args.liars.now c.in_ok-signers.field-0.ring
    c.in_ok-parties_of.field-0.items c.new.result.items c.in_ok-signers.ensures.ring c.in_ok-parties_of.ensures c.new.ensures.items in
    subst (IsCluster (g.A.Application.meaning)) (sym is) (new_is_cluster (g.A.Application.meaning) c.args.cluster.now.config
    (secret_of c.args.cluster.now) c.args.liars.now
    c.in_ok-check_liars.ensures.may.few)

pub returns-clause-new : goal.returns-clause-new
returns-clause-new g c =
    let is = new_is (g.A.Application.meaning) c.args.cluster.now.config
    (secret_of c.args.cluster.now) c.args.liars.now c.in_ok-signers.field-0.ring
    c.in_ok-parties_of.field-0.items c.new.result.items c.in_ok-signers.ensures.ring c.in_ok-parties_of.ensures c.new.ensures.items in
    is

pub returns-clause-begins : goal.returns-clause-begins
returns-clause-begins g c =
    let is = new_is (g.A.Application.meaning) c.args.cluster.now.config
    (secret_of c.args.cluster.now) c.args.liars.now c.in_ok-signers.field-0.ring
    c.in_ok-parties_of.field-0.items c.new.result.items c.in_ok-signers.ensures.ring c.in_ok-parties_of.ensures c.new.ensures.items in
    ap world_of is ∙ new_world (g.A.Application.meaning) c.args.cluster.now.config (secret_of c.args.cluster.now) c.args.liars.now

pub returns-clause-replicas : goal.returns-clause-replicas
returns-clause-replicas g c =
    correct_replicas c.args.cluster.now.config c.args.liars.now c.in_ok-check_liars.ensures.may.few

pub returns-clause-no_such : goal.returns-clause-no_such
returns-clause-no_such g c = (λ is. absurd (cc), λ both. absurd (let t = c.in_ok-check_liars.ensures.no_such.1 both in cc))
