use Rattle.std.proofs.Common.{◌≡◌, ◌+◌, ◌∷◌, ◌++◌, [], length, rules, arith, subst, sym}
use Rattle.cluster_service.specs.Reporting.{IsTaken}
use Rattle.cluster_service.proofs.ReportingLemmas.{one_taken}
use Rattle.cluster_service.proofs.final_histories.take_all.Goals as goal

pub loop-id-preserved : goal.loop-id-preserved
loop-id-preserved g c =
    let taken = c.in_ok-history.field-0 in
    let place : c.loop-id.id ≡ 0 + length c.loop-id.heights.items = omega (arith, c.loop-id.invariant.count) in
    let next = subst (λ k. IsTaken (g.A.Application.meaning) c.args.cluster.now.config c.args.ring k taken.history taken.height) place
    (subst (λ r. IsTaken (g.A.Application.meaning) c.args.cluster.now.config r c.loop-id.id taken.history taken.height)
    (sym c.requires.ring) c.in_ok-history.ensures.taken) in
    let more = one_taken (g.A.Application.meaning) c.args.cluster.now.config c.args.ring 0 _ _ _ _ c.loop-id.invariant.taken next in
    let histories : c.push.new.self.items ≡ c.loop-id.histories.items ++ taken.history ∷ [] = search rules in
    let heights : c.push-in-loop-id.new.self.items ≡ c.loop-id.heights.items ++ taken.height ∷ [] = search rules in
    record {
      count = search rules;
      taken = rw (histories, heights) more;
    }
