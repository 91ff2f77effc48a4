use Rattle.std.proofs.Common.{◌+◌, [], ◌∷◌, ◌++◌, take, drop, sym, subst}
use Rattle.program.specs.Simulating.{PlaysWritten, PlaysWrittenSome}
use Rattle.byte_streams.proofs.Faults.{on_error}
use Rattle.byte_streams.proofs.EachWritten.{and_others}
use Rattle.program.proofs.SimulatingLemmas.{written_none, written_both, written_after, written_longer}
use Rattle.program.proofs.playing.play_all.Goals as goal
use Rattle.ledger_model.proofs.Lists.{take_item}

pub loop-command-init : goal.loop-command-init
loop-command-init g c = written_none (g.A.Application.meaning) c.args.has_lines c.args.simulation.now (g.W.Write.contents c.args.writer.now)

pub loop-command-preserved : goal.loop-command-preserved
loop-command-preserved g c =
    let commands = c.args.commands.now in
    let i = c.loop-command.command-index in
    let command = c.command-item.result in
    subst (λ l. PlaysWritten (g.A.Application.meaning) c.args.has_lines c.args.simulation.now l c.play_command.new.simulation
    (g.W.Write.contents c.args.writer.now)
    (g.W.Write.contents c.play_command.new.writer))
    (sym (take_item commands i command c.loop-command-test.true c.command-item.is))
    (written_both (g.A.Application.meaning) _ _ _ _ (take i commands)
    (command ∷ []) _ _ _ c.loop-command.invariant c.in_ok-play_command.ensures.plays)

pub returns-in_err-play_command-clause-plays : goal.returns-in_err-play_command-clause-plays
returns-in_err-play_command-clause-plays g c =
    let commands = c.args.commands.now in
    let i = c.loop-command.command-index in
    let command = c.command-item.result in
    on_error _ _ c.from_residual.ensures.0
    (subst (λ l. PlaysWrittenSome (g.A.Application.meaning) c.args.has_lines c.args.simulation.now l (g.W.Write.contents c.args.writer.now)
    (g.W.Write.contents c.play_command.new.writer))
    (and_others commands i command c.loop-command-test.true c.command-item.is)
    (written_longer (g.A.Application.meaning) _ _ (take i commands ++ command ∷ []) (drop (i + 1) commands) _ _
    (written_after (g.A.Application.meaning) _ _ _ (take i commands)
    (command ∷ []) _ _ _ c.loop-command.invariant c.in_err-play_command.ensures.plays)))
