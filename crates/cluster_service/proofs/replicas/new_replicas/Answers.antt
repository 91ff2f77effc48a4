use Rattle.std.proofs.Common.{◌≡◌, ℕ, ◌∷◌, ◌++◌, [], map, sym, ap, ◌∙◌, rules, arith}
use Rattle.std.specs.List.{range_with_len}
use Rattle.std.proofs.lemmas.List.FromFn.{map-range_with_len_more}
use Rattle.locked_replica.specs.States.{StateView}
use Rattle.cluster_service.specs.Replicas.{begun, submitted}
use Rattle.std.specs.Vec.Iter.{into_iter_items}
use Rattle.cluster_setup.proofs.SignersLeft.{all_left, some_left, one_taken}
use Rattle.cluster_service.proofs.replicas.new_replicas.Goals as goal

pub loop-id-init : goal.loop-id-init
loop-id-init g c = record {
  count = search rules;
  states = search rules;
  signers = c.into_iter-signers.ensures.rest ∙ c.in_ok-signers.ensures.signers ∙ all_left c.args.cluster.now;
}

pub unreachable-requires : goal.unreachable-requires
unreachable-requires g c =
    let some = some_left c.args.cluster.now c.loop-id.id (into_iter_items c.loop-id.signers) c.loop-id-test.true
    c.loop-id.invariant.signers in
    omega (arith, some, c.in_default.ensures.cases.0, c.loop-id.signers.rest.ok)

pub new_state-requires-clause-signer : goal.new_state-requires-clause-signer
new_state-requires-clause-signer g c =
    (one_taken c.args.cluster.now c.loop-id.id (into_iter_items c.loop-id.signers) c.in-Some.signer (into_iter_items c.next.new.self)
    c.loop-id-test.true c.loop-id.invariant.signers c.in-Some.ensures.cases.0).0

pub loop-id-preserved : goal.loop-id-preserved
loop-id-preserved g c =
    let cluster = c.args.cluster.now in
    let id = c.loop-id.id in
    let made : ℕ → StateView = λ r. begun (g.A.Application.meaning) cluster (submitted (g.A.Application.meaning) cluster c.args.tx.now r) r in
    let state : StateView = c.in_ok-new_state.field-0 in
    let grown : c.push.new.self.items ≡ c.loop-id.states.items ++ state ∷ [] = search rules in
    record {
      count = search rules;
      states = grown ∙ ap (λ l. l ++ state ∷ []) c.loop-id.invariant.states
          ∙ ap (λ k. map made (range_with_len 0 id) ++ k ∷ []) c.in_ok-new_state.ensures.begun
          ∙ sym (map-range_with_len_more made 0 id id (omega arith));
      signers = (one_taken cluster id (into_iter_items c.loop-id.signers) c.in-Some.signer (into_iter_items c.next.new.self)
          c.loop-id-test.true c.loop-id.invariant.signers c.in-Some.ensures.cases.0).1;
    }
