use Rattle.std.proofs.Common.{◌∙◌, arith, sym}
use Rattle.toml.specs.View.{array_view}
use Rattle.cluster_files.proofs.KeyLists.{array_from, length-spelled_keys}
use Rattle.cluster_files.proofs.key_reading.items.Goals as goal

pub returns-then-keys-from-clause-right : goal.returns-then-keys-from-clause-right
returns-then-keys-from-clause-right c = record {
  items = array_view c.in-Some.items.now;
  has_keys = rw (← array_from _ _ (sym c.in-Some.ensures)) c.in_ok-value.ensures.some;
  counted = length-spelled_keys c.in-Some.items.now.items ∙ omega (arith, c.len-keys.ensures, c.in-Some.items.now.ok.0);
  has_replicas = c.requires;
  other = λ same. c.if-keys-from.true (same ∙ sym c.from.ensures);
}
