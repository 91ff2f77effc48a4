use Rattle.std.proofs.Common.{◌≡◌, true, false, sym, subst, rules, of_calls}
use Rattle.std.specs.List.Sorted.{IsPartitionPoint}
use Rattle.std.proofs.lemmas.Fn.{always_returns_same}
use Rattle.run_picture.specs.declared.incoming.IncomingFrame.{IncomingFrame}
use Rattle.run_picture.specs.Incoming.{is_before, IsInOrder}
use Rattle.run_picture.proofs.IncomingOrder.{searchable}
use Rattle.run_picture.proofs.incoming.IncomingFrames.before.Goals as goal
use Rattle.std.proofs.Common.{List}

pub returns-clause-parts : goal.returns-clause-parts
returns-clause-parts c =
    let same : c.as_slice.result.now ≡ c.args.self.now.frames.items = c.as_slice.ensures.value in
    let order : IsInOrder c.as_slice.result.now = subst IsInOrder (sym same) c.requires in
    subst (λ (frames : List IncomingFrame). IsPartitionPoint (λ x. is_before c.args.number c.args.round x ≡ true)
    (λ x. is_before c.args.number c.args.round x ≡ false) frames c.partition_point.result) same
    (c.partition_point.ensures.partitioned (is_before c.args.number c.args.round)
    (always_returns_same _ _ _ (λ a r f k. search (rules, of_calls)))
    (searchable c.as_slice.result.now c.args.number c.args.round order))
