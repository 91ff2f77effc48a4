use Rattle.std.proofs.Common.{◌++◌, List, ℕ, ap, ◌∙◌}
use Rattle.std.specs.String.{string_bytes}
use Rattle.std.specs.List.{flat_map}
use Rattle.std.proofs.lemmas.List.{append_assoc, take_all}
use Rattle.http_messages.specs.declared.metrics.ReplicaMetrics.{ReplicaMetrics}
use Rattle.http_messages.specs.Metrics.{all_causes, ignored_text}
use Rattle.http_messages.proofs.metrics.add_all_ignored.Goals as goal

abbrev lines : List ReplicaMetrics → List ℕ
lines = flat_map (λ of. flat_map (ignored_text of) all_causes)

pub returns : goal.returns
returns c =
    c.loop-of.invariant
    ∙ ap (λ l. string_bytes c.add_head.new.out ++ lines l) (take_all c.loop-of.of-index c.args.replicas.now c.loop-of-test.false)
    ∙ ap (λ l. l ++ lines c.args.replicas.now) c.in_ok-add_head.ensures
    ∙ append_assoc (string_bytes c.args.out.now) _ _
