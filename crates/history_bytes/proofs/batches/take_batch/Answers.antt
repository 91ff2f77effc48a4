use Rattle.std.proofs.Common.{◌≡◌, nat_le, true, refl, rules}
use Rattle.ledger_model.specs.Versions.{batch_limit}
use Rattle.ledger_model.specs.Reading.{value_at}
use Rattle.history_bytes.proofs.batches.take_batch.Goals as goal

few : (c : goal.In_ok-new) → nat_le c.in_ok-count.count (batch_limit c.args.version) ≡ true
few c = search rules

pub returns : goal.returns
unfolding value_at
returns c = rw (c.in_ok-count.ensures, few c, c.in_ok-txs.ensures.read, c.in_ok-new.ensures.ok) refl
