use Rattle.inbox.proofs.Fitting.{fits_an_item}
use Rattle.inbox.proofs.full_or_empty.taking_pass_fits_an_item.Goals as goal

pub returns : goal.returns
returns c = fits_an_item
