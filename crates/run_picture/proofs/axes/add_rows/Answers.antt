use Rattle.std.proofs.Common.{◌∙◌, ◌+◌, ◌-◌, ◌++◌, sym, ap}
use Rattle.run_picture.specs.Axes.{row_text, row_of, axis_rows_from}
use Rattle.run_picture.proofs.Orders.{one_more, no_more}
use Rattle.run_picture.proofs.Joining.{rest_of, none_left}
use Rattle.run_picture.proofs.axes.add_rows.Goals as goal

pub loop-number-preserved : goal.loop-number-preserved
loop-number-preserved c =
    let l = c.args.layout.now in
    let rounds = c.args.rounds.now in
    let r = c.loop-number.number in
    let n = l.config.replicas in
    let out = c.loop-number.out.items in
    one_more out c.add_row.new.out.items c.args.out.now.items (row_text l r (row_of rounds r)) (axis_rows_from l rounds (r + 1) (n - (r + 1)))
    (axis_rows_from l rounds 0 n) (sym (ap (λ k. out ++ axis_rows_from l rounds r k) (rest_of n r c.loop-number-test.true)) ∙ c.loop-number.invariant)
    (c.in_ok-add_row.ensures ∙ ap (λ o. out ++ row_text l r o) c.row_of.ensures)

pub returns : goal.returns
returns c =
    let l = c.args.layout.now in
    let rounds = c.args.rounds.now in
    let r = c.loop-number.number in
    let n = l.config.replicas in
    no_more c.loop-number.out.items c.args.out.now.items (axis_rows_from l rounds r (n - r)) (axis_rows_from l rounds 0 n) c.loop-number.invariant
    (ap (axis_rows_from l rounds r) (none_left n r c.loop-number-test.false))
