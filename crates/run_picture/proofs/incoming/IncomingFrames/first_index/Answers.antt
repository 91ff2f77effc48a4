use Rattle.std.proofs.Common.{◌≡◌, ◌∙◌, true, false, sym, ap, subst, rules}
use Rattle.std.specs.Prelude.{Some}
use Rattle.std.specs.List.Sorted.{IsPartitionPoint}
use Rattle.std.proofs.lemmas.Option.{slice_get-get_or}
use Rattle.run_picture.specs.declared.incoming.IncomingFrame.{IncomingFrame}
use Rattle.run_picture.specs.Incoming.{is_before}
use Rattle.run_picture.proofs.IncomingOrder.{end_within, first_is}
use Rattle.run_picture.proofs.incoming.IncomingFrames.first_index.Goals as goal

pub index-requires : goal.index-requires
index-requires c =
    let frames = c.args.self.now.frames.items in
    let number = c.args.number in
    let within = end_within frames number c.args.round c.requires.order c.before-first.result c.before-first.ensures.bound
    (subst (λ r. IsPartitionPoint (λ x. is_before number r x ≡ true)
    (λ x. is_before number r x ≡ false) frames c.before-first.result) c.from.ensures c.before-first.ensures.parts)
    c.requires.one in
    search (rules, within)

pub returns : goal.returns
returns c =
    let frames = c.args.self.now.frames.items in
    let number = c.args.number in
    let parts = subst (λ r. IsPartitionPoint (λ x. is_before number r x ≡ true)
    (λ x. is_before number r x ≡ false) frames c.before-first.result) c.from.ensures c.before-first.ensures.parts in
    let within = end_within frames number c.args.round c.requires.order c.before-first.result c.before-first.ensures.bound parts
    c.requires.one in
    first_is frames number c.args.round c.requires.order c.before-first.result c.before-first.ensures.bound parts c.requires.one
    c.index.result.now
    (slice_get-get_or frames c.before-first.result c.index.result.now within ∙ ap (λ (x : IncomingFrame). Some x) (sym c.index.ensures))
