use Rattle.std.proofs.Common.{◌≡◌, take}
use Rattle.ledger_model.specs.Kinds.{number_in}
use Rattle.app_kinds.proofs.count.number_of.Given as goal

abbrev pub invariant-loop-byte : goal.invariant-loop-byte
invariant-loop-byte l = l.number ≡ number_in (take l.byte-index l.bytes)
