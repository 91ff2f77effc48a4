use Rattle.std.proofs.Common.{◌≡◌, ◌≤◌, ap, subst, sym, ◌∙◌, length}
use Rattle.ledger_model.specs.Limits.{max_height}
use Rattle.replica_core.proofs.Machines.{height_is}
use Rattle.replica_core.proofs.replay.Replay.height.Goals as goal

-- the number of blocks
pub returns-clause-height : goal.returns-clause-height
returns-clause-height g c = rw (sym c.self.view_is)
    (c.height.ensures.height ∙ height_is (g.A.Application.meaning) (c.self.inside.executor) (c.self.inside.config.kind)
    (c.self.inside.committed.items)
    (c.self.invariant.3))

-- the number of blocks
pub returns-clause-most : goal.returns-clause-most
returns-clause-most g c =
    let height : c.height.result ≡ length c.self.inside.committed.items =
    c.height.ensures.height ∙ height_is (g.A.Application.meaning) (c.self.inside.executor) (c.self.inside.config.kind)
    (c.self.inside.committed.items)
    (c.self.invariant.3) in
    subst (λ n. n ≤ max_height) (sym height) (c.self.invariant.4)

-- and each history that it matches commits as many batches
pub returns-clause-same : goal.returns-clause-same
returns-clause-same g c = rw (sym c.self.view_is) (λ entries matches.
    ap length matches.commits
    ∙ sym (c.height.ensures.height ∙ height_is (g.A.Application.meaning) (c.self.inside.executor) (c.self.inside.config.kind)
    (c.self.inside.committed.items)
    (c.self.invariant.3)))
