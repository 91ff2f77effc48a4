use Rattle.std.proofs.Common.{subst, ◌∙◌}
use Rattle.std.specs.Prelude.{option_map}
use Rattle.std.specs.Io.KnownBytes.{Appends}
use Rattle.byte_streams.proofs.Faults.{on_error}
use Rattle.byte_streams.proofs.WritingLemmas.{kept_some}
use Rattle.cluster_service.specs.Lines.{port_lines}
use Rattle.cluster_service.proofs.writing.write_ports.Goals as goal

pub returns-in_err-flush_output-clause-written : goal.returns-in_err-flush_output-clause-written
returns-in_err-flush_output-clause-written g c =
    on_error _ _ c.from_residual-in_err-flush_output.ensures.0
    (kept_some _ _ _ (port_lines c.args.listeners.now.sessions.port (option_map (λ h. h.port) c.args.listeners.now.http))
    (subst (λ l. Appends (g.W.Write.contents c.args.writer.now) (g.W.Write.contents c.write_output.new.output) l)
    (c.as_bytes.ensures.value ∙ c.in_ok-lines.ensures) c.in_ok-write_output.ensures.written) c.in_err-flush_output.ensures.written)
