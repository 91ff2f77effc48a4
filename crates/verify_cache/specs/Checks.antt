-- When a part of a frame counts as signed.
use Rattle.std.specs.Prelude.{Bool, slice_get}
use Rattle.ledger_model.specs.Rules.{Ring, is_signed_by}
use Rattle.signed_frames.specs.Lending.{SignedPartView}

-- the part has its signer's signature
abbrev pub is_part_signed : Ring → SignedPartView → Bool
is_part_signed ring p = is_signed_by (slice_get ring p.signer) p.message p.signature
