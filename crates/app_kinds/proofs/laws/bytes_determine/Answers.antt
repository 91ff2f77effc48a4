use Rattle.app_kinds.proofs.Determined.{bytes_determine}
use Rattle.app_kinds.proofs.laws.bytes_determine.Goals as goal

pub returns : goal.returns
returns c = bytes_determine
