use Rattle.std.proofs.Common.{rules, arith, ◌∙◌, ap, ◌+◌, ◌∷◌, List, [], length, map, subst, sym, length-append}
use Rattle.std.specs.List.{FoldsTo}
use Rattle.http_messages.specs.declared.metrics.ReplicaMetrics.{ReplicaMetrics}
use Rattle.http_sessions.specs.Exchanges.{Makes}
use Rattle.http_sessions.specs.Answering.{exchanges_of_metrics}
use Rattle.http_sessions.proofs.Showing.{each_more, shown_more, stranger_met}
use Rattle.http_sessions.proofs.answering.add_metrics.Goals as goal

pub loop-number-preserved : goal.loop-number-preserved
loop-number-preserved g c =
    let items = c.push_reserved.ensures.items in
    let number = c.in-Some.ensures.replica ∙ c.new.ensures in record {
      each = ap (map (λ m. m.replica)) items ∙ each_more (λ m. m.replica) c.loop-number.all.items c.in-Some.metrics c.loop-number.number
          c.loop-number.invariant.each number;
      made = subst (λ l. FoldsTo (Makes g.T.Targets.asks g.T.HttpTargets.inquires) c.args.targets.now (exchanges_of_metrics l) c.metrics.new.self)
          (sym {A = List ReplicaMetrics} items)
          (shown_more _ _ _ _ _ _ _ c.loop-number.invariant.made c.in-Some.ensures.replica c.in-Some.ensures.asked);
      count = c.metrics.ensures.count ∙ c.loop-number.invariant.count;
      sized = ap length items ∙ length-append c.loop-number.all.items (c.in-Some.metrics ∷ [])
          ∙ ap (λ n. n + 1) c.loop-number.invariant.sized;
      room = search rules;
    }

pub returns-in_default-clause-shown : goal.returns-in_default-clause-shown
returns-in_default-clause-shown g c = search rules

pub returns-in_default-clause-stranger : goal.returns-in_default-clause-stranger
returns-in_default-clause-stranger g c =
    let so_far = c.loop-number.invariant in
    λ _. (
      omega (arith, so_far.sized, c.loop-number-test.true),
      stranger_met _ _ _ _ _ _ so_far.made (so_far.sized ∙ sym c.new.ensures) c.in_default.ensures.asked,
    )
