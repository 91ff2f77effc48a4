use Rattle.std.proofs.Common.{◌∙◌, rules, arith}
use Rattle.std.specs.Vec.Iter.{into_iter_items}
use Rattle.cluster_setup.proofs.SignersLeft.{all_left, some_left, one_taken}
use Rattle.running_tests.proofs.replicas.replicas.Goals as goal

pub loop-id-init : goal.loop-id-init
loop-id-init g c = record {
  states = search rules;
  signers = c.into_iter-signers.ensures.rest ∙ c.in_ok-signers.ensures.signers ∙ all_left c.args.cluster.now;
}

pub unreachable-requires : goal.unreachable-requires
unreachable-requires g c =
    let some = some_left c.args.cluster.now c.loop-id.id (into_iter_items c.loop-id.signers) c.loop-id-test.true
    c.loop-id.invariant.signers in
    omega (arith, some, c.in_default.ensures.cases.0, c.loop-id.signers.rest.ok)

pub replica-requires-clause-signer : goal.replica-requires-clause-signer
replica-requires-clause-signer g c =
    (one_taken c.args.cluster.now c.loop-id.id (into_iter_items c.loop-id.signers) c.in-Some.signer (into_iter_items c.next.new.self)
    c.loop-id-test.true c.loop-id.invariant.signers c.in-Some.ensures.cases.0).0

pub loop-id-preserved : goal.loop-id-preserved
loop-id-preserved g c = record {
  states = search rules;
  signers = (one_taken c.args.cluster.now c.loop-id.id (into_iter_items c.loop-id.signers) c.in-Some.signer
      (into_iter_items c.next.new.self) c.loop-id-test.true c.loop-id.invariant.signers c.in-Some.ensures.cases.0).1;
}
