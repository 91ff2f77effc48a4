use Rattle.std.proofs.Common.{ℕ, ◌<◌, sym, subst, ◌∙◌}
use Rattle.replica_core.proofs.replay.Replay.floor.Goals as goal

pub returns-clause-same : goal.returns-clause-same
returns-clause-same g c = rw (sym c.self.view_is) (λ entries matches. matches.floor ∙ sym c.floor.ensures)

pub returns-clause-closed : goal.returns-clause-closed
returns-clause-closed g c = rw (sym c.self.view_is)
    (λ entries matches h below. matches.retired h (subst (λ (n : ℕ). h < n) c.floor.ensures below))
