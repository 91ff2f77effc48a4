use Rattle.std.proofs.Common.{◌+◌, arith, refl}
use Rattle.scenario_texts.proofs.Sizes.{behind_last, fits_ended, fits_longer, line_ended, line_longer, line_too_long}
use Rattle.scenario_texts.proofs.line_count.LineCount.take.Goals as goal

pub returns-then-self-ge-MAX_LINES-clause-counted : goal.returns-then-self-ge-MAX_LINES-clause-counted
returns-then-self-ge-MAX_LINES-clause-counted c =
    λ text has. behind_last text c.args.self.now c.args.self.now c.args.byte (omega (arith, c.if-self-ge-MAX_LINES.true)) has

pub returns-then-byte-eq10-clause-counted : goal.returns-then-byte-eq10-clause-counted
returns-then-byte-eq10-clause-counted c =
    λ text has. line_ended text c.args.self.now (record { ended = c.args.self.now.ended + 1; under_way = 0 }) c.args.byte
    c.if-byte-eq10.true refl refl has

pub returns-then-self-ge-MAX_LINE_LEN-clause-counted : goal.returns-then-self-ge-MAX_LINE_LEN-clause-counted
returns-then-self-ge-MAX_LINE_LEN-clause-counted c =
    λ text has. line_too_long text c.args.self.now c.args.self.now c.args.byte c.if-byte-eq10.false
    (omega (arith, c.if-self-ge-MAX_LINE_LEN.true)) has

pub returns-clause-counted : goal.returns-clause-counted
returns-clause-counted c = λ text has. line_longer text c.args.self.now
    (record { ended = c.args.self.now.ended; under_way = c.args.self.now.under_way + 1 }) c.args.byte c.if-byte-eq10.false refl refl has

pub returns-then-byte-eq10-clause-fits : goal.returns-then-byte-eq10-clause-fits
returns-then-byte-eq10-clause-fits c =
    λ text has small is. fits_ended text c.args.self.now has small c.args.byte c.if-byte-eq10.true
    (omega (arith, c.if-self-ge-MAX_LINES.false))

pub returns-clause-fits : goal.returns-clause-fits
returns-clause-fits c = λ text has small is. fits_longer text c.args.self.now has small c.args.byte c.if-byte-eq10.false
    (omega (arith, c.if-self-ge-MAX_LINES.false)) (omega (arith, c.if-self-ge-MAX_LINE_LEN.false))
