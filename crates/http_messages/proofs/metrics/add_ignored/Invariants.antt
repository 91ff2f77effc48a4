-- the lines so far are appended
use Rattle.std.proofs.Common.{◌≡◌, ◌++◌, take}
use Rattle.std.specs.String.{string_bytes}
use Rattle.std.specs.List.{flat_map}
use Rattle.http_messages.specs.Metrics.{ignored_text}
use Rattle.http_messages.proofs.metrics.add_ignored.Given as goal

abbrev pub invariant-loop-cause : goal.invariant-loop-cause
invariant-loop-cause l = string_bytes l.out ≡ string_bytes l.initial.out ++ flat_map (ignored_text l.of) (take l.cause-index l.causes)
