use Rattle.std.proofs.Common.{[], not, refl, subst}
use Rattle.std.specs.Prelude.{if◌then◌else◌}
use Rattle.std.specs.Io.KnownBytes.{Appends}
use Rattle.scenario_texts.specs.Plans.{plan_of}
use Rattle.program.specs.Simulating.{PlaysWritten, PlaysWrittenSome, histories_of}
use Rattle.byte_streams.specs.Writing.{AppendsSome}
use Rattle.byte_streams.proofs.Faults.{on_error, each_way}
use Rattle.program.proofs.ScenarioLemmas.{played_nothing, played_part, played_whole, played_begun}
use Rattle.program.proofs.playing.play.Goals as goal

pub returns-in_err-simulation-clause-plays : goal.returns-in_err-simulation-clause-plays
returns-in_err-simulation-clause-plays g c =
    let s = c.args.scenario.now in
    on_error _ _ c.from_residual.ensures.0
    (played_nothing (g.A.Application.meaning) c.args.settings.now (plan_of s) s.setup.config
    (record { replicas = refl; faults = refl; kind = refl; frames = refl })
    (g.W.Write.contents c.args.writer.now))

pub returns-clause-plays : goal.returns-clause-plays
returns-clause-plays g c =
    let s = c.args.settings.now in
    let scenario = c.args.scenario.now in
    let first = c.in_ok-simulation.simulation in
    let last = c.play_all.new.simulation in
    let played = subst (λ l. PlaysWritten (g.A.Application.meaning) (not s.histories) first l last (g.W.Write.contents c.args.writer.now)
    (g.W.Write.contents c.play_all.new.writer)) c.deref.ensures.value c.in_ok-play_all.ensures.plays in
    each_way _ _ _ _ c.write_end.result
    (λ _ w. played_whole (g.A.Application.meaning) s (plan_of scenario) scenario.setup.config
    (record { replicas = refl; faults = refl; kind = refl; frames = refl })
    first last _ _
    _ c.in_ok-simulation.ensures.opening played c.world.ensures.since c.world.ensures.one_ledger c.world.ensures.replay
    c.world.ensures.account
    (subst (λ x. Appends (g.W.Write.contents c.play_all.new.writer) (g.W.Write.contents c.write_end.new.writer)
    (if s.histories then histories_of x else [])) c.world.ensures.world w))
    (λ _ w. played_begun (g.A.Application.meaning) s (plan_of scenario) scenario.setup.config
    (record { replicas = refl; faults = refl; kind = refl; frames = refl })
    first last _ _
    _ c.in_ok-simulation.ensures.opening played c.world.ensures.since c.world.ensures.one_ledger c.world.ensures.replay
    c.world.ensures.account
    (subst (λ x. AppendsSome (g.W.Write.contents c.play_all.new.writer) (g.W.Write.contents c.write_end.new.writer)
    (if s.histories then histories_of x else [])) c.world.ensures.world w))
    c.write_end.ensures.written

pub returns-in_err-play_all-clause-plays : goal.returns-in_err-play_all-clause-plays
returns-in_err-play_all-clause-plays g c =
    let s = c.args.settings.now in
    let scenario = c.args.scenario.now in
    let first = c.in_ok-simulation.simulation in
    on_error _ _ c.from_residual-in_err-play_all.ensures.0
    (played_part (g.A.Application.meaning) s (plan_of scenario) scenario.setup.config
    (record { replicas = refl; faults = refl; kind = refl; frames = refl }) first _
    _
    c.in_ok-simulation.ensures.opening
    (subst (λ l. PlaysWrittenSome (g.A.Application.meaning) (not s.histories) first l (g.W.Write.contents c.args.writer.now)
    (g.W.Write.contents c.play_all.new.writer)) c.deref.ensures.value c.in_err-play_all.ensures.plays))
