use Rattle.std.proofs.Common.{◌≡◌, ◌+◌, ◌-◌, ◌/◌, true, sym, ◌∙◌, rules, arith}
use Rattle.std.specs.Prelude.{nat_le}
use Rattle.std.proofs.lemmas.Grind.{common_steps}
use Rattle.round_pacer.specs.Pacing.{due_at}
use Rattle.round_pacer.proofs.Rising.{those_due}
use Rattle.round_pacer.proofs.due.Goals as goal

pub loop-low-preserved-then-is_due : goal.loop-low-preserved-then-is_due
loop-low-preserved-then-is_due c =
    let l = c.loop-low in
    let test : nat_le (due_at c.args.start c.args.base_ms (c.args.ended + (l.high - (l.high - l.low) / 2))) c.args.now ≡ true =
    rw (c.from.ensures, c.from-in-loop-low.ensures) at (sym c.is_due.ensures ∙ c.if-is_due.true) in
    those_due l.invariant (l.high - (l.high - l.low) / 2) (omega arith) test

pub loop-low-preserved : goal.loop-low-preserved
loop-low-preserved c = grind (arith, common_steps)

pub loop-low-init : goal.loop-low-init
loop-low-init c = search rules
