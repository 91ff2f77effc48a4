use Rattle.std.proofs.Common.{◌∙◌, ◌++◌, [], ◌∷◌, ap, length, arith}
use Rattle.std.proofs.lemmas.List.{length-set}
use borrow.Rule.Slice.PartMut.{put_mid}
use Rattle.std.specs.Int.{w32, to_be_bytes}
use Rattle.lm_ots.proofs.Writes.{message-filled, length-put_mid}
use Rattle.lm_ots.proofs.block.step_message.Goals as goal

pub returns-clause-message : goal.returns-clause-message
returns-clause-message c =
    let index = c.copy_from_slice.ensures.after ∙ c.to_be_bytes.ensures in
    message-filled c.leaf_message-message.result _ _ _ c.args.step c.leaf_message-message.ensures.whole
    (ap length index) (ap length c.copy_from_slice-2.ensures.after ∙ c.told-value) c.leaf_message-message.ensures.leaf
    ∙ (λ i. c.args.identifier.now ++ to_be_bytes w32 c.args.leaf ++ index i ++ (c.args.step ∷ []) ++ c.copy_from_slice-2.ensures.after i)

pub slice_bounds-message-end-2 : goal.slice_bounds-message-end-2
slice_bounds-message-end-2 c =
    let message = c.leaf_message-message.result in
    let index = c.copy_from_slice.new.self in
    let whole = c.leaf_message-message.ensures.whole in
    let kept = length-put_mid 20 2 message index (omega arith) (ap length (c.copy_from_slice.ensures.after ∙ c.to_be_bytes.ensures)) in
    omega (arith, length-set (put_mid 20 2 message index) 22 c.args.step, kept, whole)
