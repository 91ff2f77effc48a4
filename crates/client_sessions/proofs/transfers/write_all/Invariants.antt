-- what is gone from `left` was written
use Rattle.std.proofs.Common.{◌≡◌, ℕ, List, ◌++◌, length}
use Rattle.std.specs.Io.KnownBytes.{Appends}
use Rattle.client_sessions.proofs.transfers.write_all.Given as goal

abbrev pub invariant-loop-left : goal.invariant-loop-left
invariant-loop-left g l =
    ((done : List ℕ) × ((l.initial.left ≡ done ++ l.left)
    × Appends (g.W.SessionWriter.contents l.initial.output) (g.W.SessionWriter.contents l.output) done))
    × (g.W.SessionWriter.failures l.output ≡ g.W.SessionWriter.failures l.initial.output)

abbrev pub decreases-loop-left : goal.decreases-loop-left
decreases-loop-left g l = length l.left
