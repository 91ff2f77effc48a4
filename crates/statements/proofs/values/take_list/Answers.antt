use Rattle.ledger_model.specs.Reading.{list_at}
use Rattle.ledger_model.specs.Spelling.{are_ascending}
use Rattle.statements.proofs.values.take_list.Goals as goal
use Rattle.std.proofs.Common.{◌≡◌, nat_le, true, refl, rules}

few : (c : goal.After-new) → nat_le c.in_ok-count.count 4 ≡ true
few c = search rules

ascending : (c : goal.After-new) → are_ascending c.in_ok-batches.batches.items ≡ true
ascending c = search rules

pub returns : goal.returns
unfolding list_at
returns c = rw (c.in_ok-count.ensures, few c, c.in_ok-batches.ensures, ascending c, c.new.ensures) refl
