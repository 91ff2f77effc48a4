use Rattle.std.proofs.Common.{◌≡◌, ap, subst}
use Rattle.std.specs.Prelude.{Some, None, Err}
use Rattle.history_bytes.specs.HistoryReading.{histories_reading}
use Rattle.byte_streams.proofs.Faults.{on_error}
use Rattle.program.proofs.history_input.read_history_input.Goals as goal

pub returns-in_err-bytes-clause-read : goal.returns-in_err-bytes-clause-read
returns-in_err-bytes-clause-read g c = on_error _ _ c.from_residual.ensures.0 c.in_err-bytes.ensures.read

pub returns-in_err-from_vec-clause-read : goal.returns-in_err-from_vec-clause-read
returns-in_err-from_vec-clause-read g c =
    on_error _ _ c.from_residual-in_err-from_vec.ensures.0 (c.in_ok-bytes.bytes.items, c.in_ok-bytes.ensures.read.0)

pub returns-in-Ok-clause-read : goal.returns-in-Ok-clause-read
returns-in-Ok-clause-read g c = (
  c.in_ok-bytes.bytes.items,
  (
    c.in_ok-bytes.ensures.read,
    subst (λ b. histories_reading c.args.frames b ≡ Some c.in-Ok.histories.items) c.in_ok-from_vec.ensures.ok c.in-Ok.ensures.read,
  ),
)

pub returns-in-Err-BadHistory-clause-read : goal.returns-in-Err-BadHistory-clause-read
returns-in-Err-BadHistory-clause-read g c = (
  c.in_ok-bytes.bytes.items,
  (
    c.in_ok-bytes.ensures.read,
    subst (λ b. histories_reading c.args.frames b ≡ None) c.in_ok-from_vec.ensures.ok
        (c.in-Err-BadHistory.ensures.bad (ap Err c.in-Err-BadHistory.field-0-is)),
  ),
)
