use Rattle.signed_frames.proofs.Joined.{joined}
use Rattle.signed_frames.proofs.Outcomes.{same_outcome}
use Rattle.signed_frames.proofs.laws.however_cut.Goals as goal

pub returns-clause-joined : goal.returns-clause-joined
returns-clause-joined c = joined

pub returns-clause-same : goal.returns-clause-same
returns-clause-same c = same_outcome
