use Rattle.std.proofs.Common.{◌≡◌, ◌∙◌, ◌+◌, ◌-◌, ◌<◌, ◌≤◌, ◌++◌, sym, ap, subst}
use Rattle.run_picture.specs.Axes.{column_text, columns_from}
use Rattle.run_picture.proofs.Orders.{one_more, no_more}
use Rattle.run_picture.proofs.Joining.{rest_of, none_left}
use Rattle.run_picture.proofs.axes.add_columns.Goals as goal

pub loop-number-preserved : goal.loop-number-preserved
loop-number-preserved c =
    let l = c.args.layout.now in
    let r = c.loop-number.number in
    let n = l.last + 1 in
    let out = c.loop-number.out.items in
    let inside : r < n = subst (λ k. r < k + 1) c.from-number-end.ensures c.loop-number-test.true in
    one_more out c.add_column.new.out.items c.args.out.now.items (column_text l r) (columns_from l (r + 1) (n - (r + 1)))
    (columns_from l l.first (n - l.first)) (sym (ap (λ k. out ++ columns_from l r k) (rest_of n r inside)) ∙ c.loop-number.invariant)
    c.in_ok-add_column.ensures

pub returns : goal.returns
returns c =
    let l = c.args.layout.now in
    let r = c.loop-number.number in
    let n = l.last + 1 in
    let over : n ≤ r = subst (λ k. k + 1 ≤ r) c.from-number-end.ensures c.loop-number-test.false in
    no_more c.loop-number.out.items c.args.out.now.items (columns_from l r (n - r))
    (columns_from l l.first (n - l.first)) c.loop-number.invariant
    (ap (columns_from l r) (none_left n r over))
