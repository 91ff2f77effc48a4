-- the slots so far are empty
use Rattle.std.proofs.Common.{◌≡◌, drop}
use Rattle.tally.specs.Tallies.{all_read}
use Rattle.height_row.proofs.slots.first_of.Given as goal

abbrev pub invariant-loop-place : goal.invariant-loop-place
invariant-loop-place l = all_read l.slots ≡ all_read (drop l.place l.slots)
