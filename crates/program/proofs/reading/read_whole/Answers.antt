use Rattle.std.proofs.Common.{◌++◌, take}
use Rattle.std.proofs.KnownBytes.{Consumes-kept}
use Rattle.byte_streams.proofs.Faults.{on_error}
use Rattle.program.proofs.ScenarioLemmas.{read_on}
use Rattle.program.proofs.reading.read_whole.Goals as goal

pub returns-in_err-count-clause-read : goal.returns-in_err-count-clause-read
returns-in_err-count-clause-read g c =
    on_error _ _ c.from_residual.ensures.0
    (c.loop.bytes.items, Consumes-kept _ _ _ _ c.loop.invariant c.in_err-count.ensures.bytes)

pub returns-in_err-extend_from_slice-clause-read : goal.returns-in_err-extend_from_slice-clause-read
returns-in_err-extend_from_slice-clause-read g c =
    on_error _ _ c.from_residual-in_err-extend_from_slice.ensures.0 (
      c.loop.bytes.items ++ take c.in_ok-count.count c.read_piece.new.piece,
      read_on _ _ _ c.loop.bytes.items c.read_piece.new.piece c.in_ok-count.count c.loop.invariant c.in_ok-count.ensures.bytes.0,
    )
