use Rattle.std.proofs.Common.{arith}
use Rattle.signed_frames.proofs.Sizes.{statement_bound}
use Rattle.signed_frames.proofs.unsigned.spelled.Goals as goal

pub overflow_add-room : goal.overflow_add-room
overflow_add-room c = omega (arith, c.encoded_len.ensures, statement_bound c.args.statement.now c.requires)

pub overflow_add-room-2 : goal.overflow_add-room-2
overflow_add-room-2 c = omega (arith, c.encoded_len.ensures, statement_bound c.args.statement.now c.requires)

pub overflow_add-room-3 : goal.overflow_add-room-3
overflow_add-room-3 c = omega (arith, c.encoded_len.ensures, statement_bound c.args.statement.now c.requires)
