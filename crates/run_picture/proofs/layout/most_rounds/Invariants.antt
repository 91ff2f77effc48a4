-- the most of the rounds so far, and of the rest, is the most of all
use Rattle.std.proofs.Common.{◌≡◌, drop}
use Rattle.run_picture.specs.Layouts.{most_from, most_rounds}
use Rattle.run_picture.proofs.layout.most_rounds.Given as goal

abbrev pub invariant-loop-opened : goal.invariant-loop-opened
invariant-loop-opened l = most_from l.most (drop l.opened-index l.rounds) ≡ most_rounds l.rounds
