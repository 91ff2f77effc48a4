use Rattle.std.proofs.Common.{◌≡◌, ◌≤◌, ◌*◌, length, take}
use Rattle.std.specs.List.{flat_map}
use Rattle.ledger_model.specs.Spelling.{signed_bytes}
use Rattle.statements.proofs.lengths.reports_len.Given as goal

abbrev pub invariant-loop-signed : goal.invariant-loop-signed
invariant-loop-signed l = record {
  len : l.len ≡ length (flat_map signed_bytes (take l.signed-index l.reports));
  bound : l.len ≤ 39972 * l.signed-index;
}
