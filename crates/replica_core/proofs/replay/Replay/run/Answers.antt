use Rattle.std.proofs.Common.{◌≡◌, ◌<◌, ap, subst, sym, ◌∙◌, length, ◌++◌, ◌∷◌, []}
use Rattle.std.proofs.Common.{arith}
use Rattle.std.proofs.lemmas.List.{length-append}
use Rattle.ledger_model.specs.Limits.{max_height}
use Rattle.ledger_model.specs.Applications.{run}
use Rattle.replica_core.specs.Replays.{ReplayView}
use Rattle.replica_core.proofs.Machines.{height_is, added, led, left}
use Rattle.replica_core.proofs.replay.Replay.run.Goals as goal

-- src/executing.rt:30:22
pub execute-requires : goal.execute-requires
execute-requires g c =
    subst (λ n. n < max_height) (sym
    (height_is (g.A.Application.meaning) (c.self.inside.executor) (c.self.inside.config.kind) (c.self.inside.committed.items)
    (c.self.invariant.3)))
    (subst (λ (x : ReplayView). length x.commits < max_height) (sym c.self.view_is) c.requires.low)

-- src/executing.rt:23:5
pub invariant_of-self-2 : goal.invariant_of-self-2
invariant_of-self-2 g c =
    let items : c.push.new.self.items ≡ c.self.inside.committed.items ++ c.args.block ∷ [] =
    c.in-Ok.ensures.items ∙ ap (λ vs. vs ++ c.args.block ∷ []) c.in_ok-reserve.ensures.items in
    let fits : length c.self.inside.committed.items < max_height =
    subst (λ (x : ReplayView). length x.commits < max_height) (sym c.self.view_is) c.requires.low in (
      c.self.invariant.0,
      c.self.invariant.1,
      c.self.invariant.2,
      led (g.A.Application.meaning) (c.self.inside.executor) (c.self.inside.config.kind) (c.self.inside.committed.items)
          (c.self.invariant.3) c.args.block
          c.in_ok-result.result c.execute.new.self c.in_ok-result.ensures.ok
          ∙ ap (run (g.A.Application.meaning) c.self.inside.config.kind) (sym items),
      (let count = ap length items ∙ length-append c.self.inside.committed.items (c.args.block ∷ []) in omega (arith, count, fits)),
      c.self.invariant.5,
      (
          let count = ap length items ∙ length-append c.self.inside.committed.items (c.args.block ∷ []) in
          let low = c.self.invariant.6 in
          omega (arith, count, low)
          ),
    )

-- src/executing.rt:23:5
pub returns-clause-answer : goal.returns-clause-answer
returns-clause-answer g c = rw (sym c.self.view_is)
    (added (g.A.Application.meaning) (c.self.inside.executor) (c.self.inside.config.kind) (c.self.inside.committed.items)
    (c.self.invariant.3) c.args.block
    c.in_ok-result.result c.execute.new.self c.in_ok-result.ensures.ok)

-- src/executing.rt:23:5
pub returns-clause-after : goal.returns-clause-after
returns-clause-after g c =
    let items : c.push.new.self.items ≡ c.self.inside.committed.items ++ c.args.block ∷ [] =
    c.in-Ok.ensures.items ∙ ap (λ vs. vs ++ c.args.block ∷ []) c.in_ok-reserve.ensures.items in
    let ran : c.execute.new.self ≡ run (g.A.Application.meaning) c.self.inside.config.kind
    (c.self.inside.committed.items ++ c.args.block ∷ []) =
    led (g.A.Application.meaning) (c.self.inside.executor) (c.self.inside.config.kind) (c.self.inside.committed.items)
    (c.self.invariant.3) c.args.block
    c.in_ok-result.result c.execute.new.self c.in_ok-result.ensures.ok in
    rw (sym c.self.view_is, items, ran)
    (ap (λ pool. record {
      config = c.self.inside.config;
      id = c.self.inside.id;
      ring = c.self.inside.verifier.ring;
      floor = c.self.inside.rows.floor;
      rows = c.self.inside.rows.rows;
      pool = pool;
      commits = c.self.inside.committed.items ++ c.args.block ∷ [];
      machine = run (g.A.Application.meaning) c.self.inside.config.kind (c.self.inside.committed.items ++ c.args.block ∷ []);
      clock = c.self.inside.clock;
      mute = c.self.inside.mute;
    }) (left (g.A.Application.meaning) c.execute.new.self (c.self.inside.config.kind)
    (c.self.inside.committed.items ++ c.args.block ∷ []) ran
    (g.A.Application.machine c.app.result.now) c.args.block c.self.inside.pool c.after_block.new.self c.app.ensures
    c.after_block.ensures))
