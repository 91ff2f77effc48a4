use Rattle.std.proofs.Common.{◌≡◌, ◌≤◌, [], length, lit≤, refl, sym, ap, subst}
use Rattle.ledger_model.specs.Lawful.{Replay, ReplaysFrom}
use Rattle.key_ring.specs.Signers.{leaves_of}
use Rattle.replica_core.specs.Replays.{MatchesHistory}
use Rattle.replica_core.specs.Leaves.{LeafAccount}
use Rattle.replica_core.specs.LeafOrder.{SignsOnce}
use Rattle.replica_core.proofs.SpentLeaves.{account_none}
use Rattle.replica_core.proofs.LeafOrder.{once_none}
use Rattle.locked_replica.specs.StoredEntries.{AreStored, entries_of}
use Rattle.locked_replica.proofs.state.State.new.Goals as goal
use Rattle.ledger_model.specs.Limits.{max_history_len}

-- nothing happened yet
pub invariant_of-result : goal.invariant_of-result
unfolding Replay ReplaysFrom
invariant_of-result g c =
    let held = c.in_ok-new.field-0.replay in
    let keys = c.in_ok-new.field-0.keys in
    let strings = c.new-2.result in
    let none : entries_of strings c.new-3.result.items ≡ [] = ap (entries_of strings) c.new-3.ensures.items in (
      record {
        few = subst (λ entries. length entries ≤ max_history_len) (sym none) (lit≤ tt);
        replay = subst (Replay (g.A.Application.meaning) held.config held.ring held.id) (sym none) tt;
        matches = subst (MatchesHistory (g.A.Application.meaning) held) (sym none) c.in_ok-new.ensures.matches;
        account = subst (LeafAccount held.config held.id (leaves_of keys.secret) keys.used) (sym none)
            (account_none held.config held.id (leaves_of keys.secret) keys.used);
        once = subst (SignsOnce keys.secret keys.used) (sym none) (once_none keys.secret keys.used);
      },
      subst (AreStored strings) (sym c.new-3.ensures.items)
          (subst (λ t. AreStored t []) (sym c.new-2.ensures) (record { within = tt; exact = refl })),
    )
