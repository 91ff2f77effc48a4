use Rattle.std.proofs.Common.{◌≡◌, ℕ, ◌+◌, ◌*◌, ◌-◌, ◌≤◌, length, ap, ◌∙◌, arith}
use Rattle.std.specs.Prelude.{nat_le}
use Rattle.history_audit.proofs.counting.are_enough.Goals as goal

by_quorum : (n t l : ℕ) → 3 * t + 1 ≤ n → nat_le (n - t) l ≡ nat_le n (l + t)
by_quorum n t l enough = grind (arith)

pub returns : goal.returns
returns c =
    let config = c.args.config.now in
    ap (λ q. nat_le q (length c.args.histories.now)) (c.from.ensures ∙ c.quorum.ensures)
    ∙ by_quorum config.replicas config.faults (length c.args.histories.now) config.enough
