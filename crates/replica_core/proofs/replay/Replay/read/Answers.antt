use Rattle.std.proofs.Common.{◌≡◌, true, subst, refl, sym}
use Rattle.std.specs.Prelude.{Some, is_some}
use Rattle.ledger_model.specs.Logs.{height_of}
use Rattle.instance.specs.Instances.{InstanceView}
use Rattle.height_row.specs.Heights.{row_at}
use Rattle.replica_core.specs.Replays.{ReplayView}
use Rattle.replica_core.proofs.Delivers.{judged_there}
use Rattle.replica_core.proofs.replay.Replay.read.Goals as goal

-- src/delivering.rt:38:5
pub returns-clause-step : goal.returns-clause-step
returns-clause-step g c =
    let held : ReplayView = record {
      config = c.self.inside.config;
      id = c.self.inside.id;
      ring = c.self.inside.verifier.ring;
      floor = c.self.inside.rows.floor;
      rows = c.self.inside.rows.rows;
      pool = c.self.inside.pool;
      commits = c.self.inside.committed.items;
      machine = c.self.inside.executor;
      clock = c.self.inside.clock;
      mute = c.self.inside.mute;
    } in
    rw (sym c.self.view_is, c.read_with.ensures.same.floor, c.read_with.ensures.keys)
    (judged_there (g.A.Application.meaning) held c.args.frame c.self.inside.rows c.read_with.new.self c.read_with.result refl
    (subst (λ (x : ReplayView). is_some (row_at x.rows (height_of c.args.frame.statement)) ≡ true) (sym c.self.view_is)
    c.requires.there)
    (subst (λ (x : ReplayView). (row : InstanceView) → row_at x.rows (height_of c.args.frame.statement) ≡ Some row → row.config
    ≡ x.config) (sym c.self.view_is) c.requires.own)
    c.read_with.ensures.answer c.read_with.ensures.read c.read_with.ensures.ignored c.read_with.ensures.open c.read_with.ensures.apart)
