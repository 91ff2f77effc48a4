-- the frames of the locks so far
use Rattle.std.proofs.Common.{◌≡◌, map, take}
use Rattle.ledger_model.specs.Spelling.{frame_bytes}
use Rattle.lock_proofs.specs.LockTables.{as_statement}
use Rattle.instance.proofs.making.shared_frames.Given as goal

abbrev pub invariant-loop-lock : goal.invariant-loop-lock
invariant-loop-lock l = l.frames.items ≡ map (λ s. frame_bytes (as_statement s)) (take l.lock-index l.locks)
