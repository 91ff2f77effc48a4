use Rattle.ledger_laws.proofs.Computed.{own_listing_is_no_others}
use Rattle.ledger_laws.proofs.examples.own_listing_is_no_others.Goals as goal

pub returns : goal.returns
returns c = own_listing_is_no_others
