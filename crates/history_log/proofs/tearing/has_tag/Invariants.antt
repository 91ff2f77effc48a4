use Rattle.std.proofs.Common.{ℕ, ◌<◌, ◌++◌, take}
use Rattle.sha2.specs.Hashers.{Holds256}
use Rattle.history_log.specs.Records.{HasTagAt}
use Rattle.history_log.proofs.tearing.has_tag.Given as goal

abbrev pub invariant-loop-n : goal.invariant-loop-n
invariant-loop-n l = Holds256 l.hasher (l.fn.tag ++ take l.n l.bytes) × ((k : ℕ) → k < l.n → ¬ HasTagAt l.fn.tag l.bytes k)
