-- the first places are empty
use Rattle.std.proofs.Common.{◌≡◌, length, take}
use Rattle.std.specs.Prelude.{None, replicate}
use Rattle.tally.proofs.places.Tally.clear.Given as goal

abbrev pub invariant-loop-place : goal.invariant-loop-place
invariant-loop-place X l = record {
  cleared : take l.place l.self-inside.places.items ≡ replicate l.place None;
  places : length l.self-inside.places.items ≡ length l.initial.self-inside.places.items;
}
