use Rattle.std.proofs.Common.{◌≡◌, take}
use Rattle.tally.specs.Tallies.{signers_from}
use Rattle.tally.proofs.places.Tally.signers.Given as goal

abbrev pub invariant-loop-signer : goal.invariant-loop-signer
invariant-loop-signer g l = l.signers.items ≡ signers_from 0 (take l.signer l.self-inside.places.items)
