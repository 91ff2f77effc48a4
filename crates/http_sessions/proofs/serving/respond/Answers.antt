use Rattle.byte_streams.proofs.Faults.{on_error}
use Rattle.http_sessions.specs.declared.request_end.RequestEnd.TheVariants.{OutOfMemory}
use Rattle.http_sessions.proofs.serving.respond.Goals as goal

pub returns-in_err-send-in-Err-clause-responds : goal.returns-in_err-send-in-Err-clause-responds
returns-in_err-send-in-Err-clause-responds g c = on_error _ _ c.from_residual-in_err-send-in-Err.ensures.0 (
  OutOfMemory,
  record {
    reply = c.out_of_memory_reply.result.now;
    is_reply = (c.in-Err.ensures.replies, c.out_of_memory_reply.ensures);
    sent = c.in_err-send-in-Err.ensures.written;
  },
)
