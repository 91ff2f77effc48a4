use Rattle.std.proofs.Common.{rules}
use Rattle.cluster_service.proofs.frame_counting.frame_answer.Goals as goal

pub returns-in-Delivered : goal.returns-in-Delivered
returns-in-Delivered c = search rules
