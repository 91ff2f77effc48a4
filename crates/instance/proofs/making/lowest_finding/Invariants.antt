-- the reports that find the value, of the places so far, as many as a lock needs
use Rattle.std.proofs.Common.{◌≡◌, filter, take}
use Rattle.ledger_model.specs.Locks.{finds}
use Rattle.tally.specs.Tallies.{all_read}
use Rattle.instance.proofs.making.lowest_finding.Given as goal

abbrev pub invariant-loop-place : goal.invariant-loop-place
invariant-loop-place l = l.found.items ≡ take l.count (filter (λ s. finds s.report l.value) (all_read (take l.place-index l.places)))
