use Rattle.std.proofs.Common.{subst}
use Rattle.std.specs.Io.KnownBytes.{Appends}
use Rattle.byte_streams.specs.Writing.{AppendsSome}
use Rattle.byte_streams.proofs.Faults.{on_error}
use Rattle.program.proofs.SimulatingLemmas.{written_one, written_part, written_nothing, wanted, unwanted, wanted_some}
use Rattle.program.proofs.playing.play_command.Goals as goal
use Rattle.program.proofs.playing.play_command.Goals.{then-has_lines+in_ok-write_output, else-has_lines}

pub returns-in_err-lines-clause-plays : goal.returns-in_err-lines-clause-plays
returns-in_err-lines-clause-plays g c = on_error _ _ c.from_residual.ensures.0 (written_nothing (g.A.Application.meaning) _ _ _ _)

pub returns-in_err-write_output-clause-plays : goal.returns-in_err-write_output-clause-plays
returns-in_err-write_output-clause-plays g c =
    on_error _ _ c.from_residual-in_err-write_output.ensures.0
    (written_part (g.A.Application.meaning) c.args.has_lines c.args.simulation.now c.play.new.self c.args.command.now _ _ _
    c.in_ok-lines.ensures.plays
    (wanted_some c.args.has_lines _ _ _ c.if-has_lines.true
    (subst (AppendsSome _ _) c.as_bytes.ensures c.in_err-write_output.ensures.written)))

pub returns-clause-plays : goal.returns-clause-plays
returns-clause-plays g c =
    elim c.if-has_lines.branch [
      | then-has_lines+in_ok-write_output w ↦
          written_one (g.A.Application.meaning) c.args.has_lines c.args.simulation.now c.play.new.self c.args.command.now _ _ _
          c.in_ok-lines.ensures.plays
          (rw w.writer-is (wanted c.args.has_lines _ _ _ w.if-has_lines.true
          (subst (Appends _ _) w.as_bytes.ensures w.in_ok-write_output.ensures.written)))
      | else-has_lines w ↦
          written_one (g.A.Application.meaning) c.args.has_lines c.args.simulation.now c.play.new.self c.args.command.now _ _ _
          c.in_ok-lines.ensures.plays
          (rw w.writer-is (unwanted c.args.has_lines _ _ w.if-has_lines.false))
    ]
