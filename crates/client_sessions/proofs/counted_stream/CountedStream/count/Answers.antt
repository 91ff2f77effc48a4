use Rattle.std.proofs.Common.{rules}
use Rattle.client_sessions.proofs.counted_stream.CountedStream.count.Goals as goal

pub returns-then-is_err-clause-failures : goal.returns-then-is_err-clause-failures
returns-then-is_err-clause-failures g c = search rules
