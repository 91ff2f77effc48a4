use Rattle.signed_frames.proofs.reader.FrameReader.take_piece.Goals as goal
use Rattle.std.proofs.Common.{tests, arith, rules}
use Rattle.std.proofs.lemmas.Grind.{common_steps}

pub returns-in-Failed-clause-fault : goal.returns-in-Failed-clause-fault
returns-in-Failed-clause-fault c = search rules

pub returns-clause-frames : goal.returns-clause-frames
returns-clause-frames c = search (tests, rules)

pub returns-then-is_empty-clause-fault : goal.returns-then-is_empty-clause-fault
returns-then-is_empty-clause-fault c = grind (arith, common_steps)
