use Rattle.std.proofs.Common.{◌≡◌, ◌∙◌, ◌+◌, ◌++◌, drop, sym, ap}
use Rattle.std.specs.Prelude.{None, Some}
use Rattle.std.proofs.Math.ListN.{drop_of_length-le}
use Rattle.run_picture.specs.declared.entry_facts.Mark.{Mark}
use Rattle.run_picture.specs.Marks.{mark_text, marks_from, spot_of, spread}
use Rattle.ledger_model.proofs.Items.{drop_item}
use Rattle.run_picture.proofs.Orders.{one_more, no_more}
use Rattle.run_picture.proofs.marks.add_marks.Goals as goal

pub loop-mark-preserved : goal.loop-mark-preserved
loop-mark-preserved c =
    let l = c.args.layout.now in
    let marks = c.args.marks.now in
    let i = c.loop-mark.mark-index in
    let m : Mark = c.mark-item.result in
    let before = c.loop-mark.before in
    let k = c.loop-mark.place in
    let out = c.loop-mark.out.items in
    let spot : c.spot_of-spot.result ≡ spot_of m = c.spot_of-spot.ensures in
    let place : c.spread-place.result ≡ spread before k (spot_of m) = c.spread-place.ensures.after ∙ ap (spread before k) spot in
    let rest = drop (i + 1) marks in
    let more = one_more out c.add_mark.new.out.items c.args.out.now.items (mark_text l (spread before k (spot_of m)) m)
    (marks_from l (Some (spot_of m)) (spread before k (spot_of m)) rest) (marks_from l None 0 marks)
    (sym (ap (λ ms. out ++ marks_from l before k ms) (drop_item marks i m c.loop-mark-test.true c.mark-item.is)) ∙ c.loop-mark.invariant.1)
    (c.in_ok-add_mark.ensures ∙ ap (λ n. out ++ mark_text l n m) place) in (
      c.spread-place.ensures.few,
      ap (λ s. c.add_mark.new.out.items ++ marks_from l (Some s) c.spread-place.result rest) spot
          ∙ ap (λ n. c.add_mark.new.out.items ++ marks_from l (Some (spot_of m)) n rest) place ∙ more,
    )

pub returns : goal.returns
returns c =
    let l = c.args.layout.now in
    let marks = c.args.marks.now in
    no_more c.loop-mark.out.items c.args.out.now.items (marks_from l c.loop-mark.before c.loop-mark.place
    (drop c.loop-mark.mark-index marks))
    (marks_from l None 0 marks) c.loop-mark.invariant.1
    (ap (marks_from l c.loop-mark.before c.loop-mark.place) (drop_of_length-le marks c.loop-mark-test.false))
