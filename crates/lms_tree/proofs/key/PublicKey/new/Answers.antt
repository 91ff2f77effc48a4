use Rattle.lms_tree.proofs.KeyParts.{four_parts}
use Rattle.lms_tree.proofs.key.PublicKey.new.Goals as goal
use Rattle.std.proofs.Common.{arith, refl, ap, ◌∙◌, length}
use Rattle.std.proofs.lemmas.Grind.{common_steps}
use Rattle.std.specs.Int.{w32, to_be_bytes}

pub returns : goal.returns
returns c =
    let lms = c.copy_from_slice.ensures.after ∙ c.to_be_bytes.ensures ∙ ap (to_be_bytes w32) c.code.ensures in
    let ots = c.copy_from_slice-2.ensures.after ∙ c.to_be_bytes-2.ensures ∙ ap (to_be_bytes w32) c.code-2.ensures in
    let id = c.copy_from_slice-3.ensures.after ∙ c.as_bytes.ensures.bytes in
    four_parts 8 24 4 4 16 32 32 c.copy_from_slice.new.self c.copy_from_slice-2.new.self c.copy_from_slice-3.new.self
    c.copy_from_slice-4.new.self _ _ _ _ _
    (ap length lms) (ap length ots) (ap length id ∙ c.as_bytes.ensures.whole) refl refl refl lms ots id c.copy_from_slice-4.ensures.after

pub slice_bounds-bytes-end-4 : goal.slice_bounds-bytes-end-4
slice_bounds-bytes-end-4 c = grind (arith, common_steps)
