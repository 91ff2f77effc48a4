use Rattle.ledger_model.specs.Rules.{Ring}
use Rattle.std.proofs.Common.{◌≡◌, ◌∙◌, ap, subst, sym, [], false, arith}
use Rattle.ledger_model.specs.Applications.{run}
use Rattle.height_row.specs.Heights.{HeightRowView}
use Rattle.verify_cache.specs.Verifiers.{VerifierView}
use Rattle.replica_core.specs.Replays.{ReplayView, MatchesHistory}
use Rattle.replica_core.proofs.NewCores.{new_matches}
use Rattle.replica_core.proofs.Machines.{kind_is, reached}
use Rattle.replica_core.proofs.replay.Replay.new.Goals as goal

-- src/replay.rt:75:23
pub new-requires : goal.new-requires
new-requires g c = reached (g.A.Application.meaning) (g.A.Application.machine c.args.app) (c.args.config.kind) [] (c.requires.opening)

-- src/replay.rt:69:9
pub invariant_of-result : goal.invariant_of-result
invariant_of-result g c = rw c.new-5.ensures.items (
  c.requires.member,
  ap (λ (x : HeightRowView). x.config) (c.new-3.ensures.row),
  ap (λ (x : HeightRowView). x.id) (c.new-3.ensures.row),
  c.in_ok-executor.ensures ∙ ap (λ k. run (g.A.Application.meaning) k [])
      (kind_is (g.A.Application.meaning) (g.A.Application.machine c.args.app) (c.args.config.kind) [] (c.requires.opening)),
  omega arith,
  omega arith,
  (let first : c.new-3.result.floor ≡ 1 = ap (λ (x : HeightRowView). x.floor) c.new-3.ensures.row in omega (arith, first)),
)

-- src/replay.rt:59:5
pub returns-clause-new : goal.returns-clause-new
returns-clause-new g c =
    let rows : c.new-3.result.rows ≡ [] = ap (λ (x : HeightRowView). x.rows) c.new-3.ensures.row in
    let floor : c.new-3.result.floor ≡ 1 = ap (λ (x : HeightRowView). x.floor) c.new-3.ensures.row in
    let commits : c.new-5.result.items ≡ [] = c.new-5.ensures.items in
    let machine : c.in_ok-executor.executor ≡ run (g.A.Application.meaning) c.args.config.kind [] =
    c.in_ok-executor.ensures ∙ ap (λ k. run (g.A.Application.meaning) k [])
    (kind_is (g.A.Application.meaning) (g.A.Application.machine c.args.app) (c.args.config.kind) [] (c.requires.opening)) in
    let ring : c.in_ok-verifier.verifier.ring ≡ c.args.ring = ap (λ (v : VerifierView). v.ring) c.in_ok-verifier.ensures in
    λ i. record {
      config = c.args.config;
      id = c.args.id;
      ring = ring i;
      floor = floor i;
      rows = rows i;
      pool = c.new-4.ensures i;
      commits = commits i;
      machine = machine i;
      clock = 0;
      mute = false;
    }

pub returns-clause-matches : goal.returns-clause-matches
returns-clause-matches g c = subst (λ (x : ReplayView). MatchesHistory (g.A.Application.meaning) x []) (sym (returns-clause-new g c))
    (new_matches (g.A.Application.meaning) c.args.config c.args.id c.args.ring)
