use Rattle.std.proofs.Common.{◌∙◌, refl, ap, length, arith}
use Rattle.std.specs.Prelude.{replicate}
use Rattle.std.proofs.lemmas.List.{length-append}
use Rattle.lm_ots.proofs.Writes.{take-two_parts, length-put_mid}
use Rattle.lm_ots.proofs.block.leaf_message.Goals as goal

pub returns-clause-leaf : goal.returns-clause-leaf
returns-clause-leaf c =
    take-two_parts 16 4 20 c.copy_from_slice.new.self c.copy_from_slice-2.new.self _ _ _ refl c.copy_from_slice.ensures.len
    (ap length (c.copy_from_slice-2.ensures.after ∙ c.to_be_bytes.ensures))
    (c.copy_from_slice.ensures.after ∙ c.as_bytes.ensures.bytes) (c.copy_from_slice-2.ensures.after ∙ c.to_be_bytes.ensures)

pub returns-clause-whole : goal.returns-clause-whole
returns-clause-whole c =
    length-put_mid 16 4 _ c.copy_from_slice-2.new.self
    (omega (arith, length-append c.copy_from_slice.new.self (replicate 39 0), c.copy_from_slice.ensures.len))
    (ap length (c.copy_from_slice-2.ensures.after ∙ c.to_be_bytes.ensures))
    ∙ omega (arith, length-append c.copy_from_slice.new.self (replicate 39 0), c.copy_from_slice.ensures.len)
