use Rattle.std.proofs.Common.{◌≡◌, ◌++◌, subst, sym, take, true, rules}
use Rattle.scenario_texts.specs.Lines.{HasLines, IsTooLarge}
use Rattle.scenario_texts.proofs.Sizes.{all_larger, one_more}
use Rattle.scenario_texts.proofs.line_count.LineCount.take_all.Goals as goal

pub returns-then-not-take-clause-counted : goal.returns-then-not-take-clause-counted
returns-then-not-take-clause-counted c = λ text has.
    all_larger text c.args.bytes.now c.loop-byte.byte-index _ c.loop-byte-test.true
    (c.if-not-take.ensures.counted (text ++ take c.loop-byte.byte-index c.args.bytes.now) (c.loop-byte.invariant.counted text has))

pub loop-byte-preserved : goal.loop-byte-preserved
loop-byte-preserved c =
    let taken : c.take.result ≡ true = search rules in record {
      counted = λ text has. subst (λ t. HasLines t c.take.new.self)
          (one_more text c.args.bytes.now c.loop-byte.byte-index _ c.loop-byte-test.true)
          (c.if-not-take.ensures.counted (text ++ take c.loop-byte.byte-index c.args.bytes.now) (c.loop-byte.invariant.counted text has));
      fits = λ text has small large.
          c.take.ensures.fits (text ++ take c.loop-byte.byte-index c.args.bytes.now) (c.loop-byte.invariant.counted text has)
          (c.loop-byte.invariant.fits text has small) taken
          (subst IsTooLarge (sym (one_more text c.args.bytes.now c.loop-byte.byte-index _ c.loop-byte-test.true)) large);
      small = λ within. c.take.ensures.small taken;
    }
