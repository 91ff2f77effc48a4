use Rattle.std.proofs.Common.{◌≡◌, length, sym, arith}
use Rattle.std.specs.Prelude.{min}
use Rattle.std.proofs.lemmas.List.{take_min}
use Rattle.replica_turns.specs.Waiting.{max_at_once}
use Rattle.replica_turns.proofs.waiting.WaitingFrames.first_due.Goals as goal

pub returns : goal.returns
returns c =
    let due = c.self.inside.due.items in
    let len = c.len.ensures in
    let least = c.min.ensures in
    let bound : c.min.result ≡ min max_at_once (length due) = omega (arith, len, least) in
    rw (sym c.self.view_is, c.as_slice.ensures.value, bound) (take_min max_at_once due)
