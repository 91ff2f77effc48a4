use Rattle.restart_laws.proofs.Kept.{stays}
use Rattle.restart_laws.proofs.laws.logged_entries_stay.Goals as goal

pub returns : goal.returns
returns c = λ meaning config ring correct logged now steps timeline within runs.
    stays meaning config ring correct logged now steps timeline within runs
