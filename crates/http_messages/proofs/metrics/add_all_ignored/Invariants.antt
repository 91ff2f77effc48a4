-- the lines of the replicas so far are appended
use Rattle.std.proofs.Common.{◌≡◌, ◌++◌, take}
use Rattle.std.specs.String.{string_bytes}
use Rattle.std.specs.List.{flat_map}
use Rattle.http_messages.specs.Metrics.{all_causes, ignored_text}
use Rattle.http_messages.proofs.metrics.add_all_ignored.Given as goal

abbrev pub invariant-loop-of : goal.invariant-loop-of
invariant-loop-of l =
    string_bytes l.out ≡ string_bytes l.initial.out ++ flat_map (λ of. flat_map (ignored_text of) all_causes) (take l.of-index l.replicas)
