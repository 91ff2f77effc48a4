use Rattle.inbox.proofs.Fitting.{fits_full, fits_empty}
use Rattle.inbox.proofs.full_or_empty.putting_passes_fit_full_and_empty.Goals as goal

pub returns-clause-full : goal.returns-clause-full
returns-clause-full c = fits_full

pub returns-clause-empty : goal.returns-clause-empty
returns-clause-empty c = fits_empty
