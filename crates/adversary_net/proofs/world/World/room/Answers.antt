use Rattle.std.proofs.Common.{◌<◌, ◌≤◌, length, ap, arith}
use Rattle.std.proofs.lemmas.Result.{err_from_is_err_and}
use Rattle.ledger_model.specs.Worlds.{entries_in, asks}
use Rattle.locked_replica.specs.States.{StateView}
use Rattle.adversary_net.specs.WorldViews.{world_of}
use Rattle.adversary_net.proofs.Asking.{asks_event, asks_fault, refuses, full}
use Rattle.adversary_net.proofs.world.World.room.Goals as goal
use Rattle.ledger_model.specs.Limits.{max_history_len}

pub returns-in_err-correct-clause-refused : goal.returns-in_err-correct-clause-refused
returns-in_err-correct-clause-refused g c =
    let w = world_of c.args.self.now in
    let p = err_from_is_err_and c.from_residual.result c.from_residual.ensures.1 in
    rw (p.1, p.2) (λ event. refuses (g.A.Application.meaning) c.args.self.now (asks c.args.self.now.config w c.args.replica event) _
    (asks_fault c.args.self.now.config w c.args.replica event _ c.in_err-correct.ensures.fault))

pub returns-then-len-ge-MAX_ENTRIES-clause-refused : goal.returns-then-len-ge-MAX_ENTRIES-clause-refused
returns-then-len-ge-MAX_ENTRIES-clause-refused g c =
    let w = world_of c.args.self.now in
    let le : max_history_len ≤ length (entries_in w c.args.replica) =
    omega (
      arith,
      c.if-len-ge-MAX_ENTRIES.true,
      c.len.ensures.len,
      ap length c.in_ok-correct.ensures.entries,
      ap (λ (s : StateView). length s.entries) c.state.ensures,
    ) in
    λ event. full (g.A.Application.meaning) c.args.self.now (asks c.args.self.now.config w c.args.replica event) c.args.replica event
    (asks_event c.args.self.now.config w c.args.replica event c.in_ok-correct.ensures.no_fault) le

pub returns-clause-ready : goal.returns-clause-ready
returns-clause-ready g c =
    let w = world_of c.args.self.now in
    let room : length (entries_in w c.args.replica) < max_history_len =
    omega (
      arith,
      c.if-len-ge-MAX_ENTRIES.false,
      c.len.ensures.len,
      ap length c.in_ok-correct.ensures.entries,
      ap (λ (s : StateView). length s.entries) c.state.ensures,
    ) in
    λ event. record { is = asks_event c.args.self.now.config w c.args.replica event c.in_ok-correct.ensures.no_fault; room = room }
