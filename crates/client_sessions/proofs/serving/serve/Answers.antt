use Rattle.std.proofs.Common.{rules}
use Rattle.client_sessions.specs.declared.session_end.SessionFault.TheVariants.{NoMemory}
use Rattle.byte_streams.proofs.Faults.{passed}
use Rattle.client_sessions.proofs.UnderWay.{no_memory}
use Rattle.client_sessions.proofs.serving.serve.Goals as goal

pub returns-in_err-buffer-clause-stops : goal.returns-in_err-buffer-clause-stops
returns-in_err-buffer-clause-stops g c = passed _ NoMemory _ c.from_residual.ensures.1 (no_memory _ _ _ _ _ _)

pub returns-clause-ends : goal.returns-clause-ends
returns-clause-ends g c = search rules

pub returns-clause-reader : goal.returns-clause-reader
returns-clause-reader g c = search rules
