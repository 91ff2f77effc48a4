use Rattle.std.proofs.Common.{rules, ◌-◌, length, sym, subst}
use Rattle.std.specs.Io.KnownBytes.{Consumes}
use Rattle.std.proofs.KnownBytes.{Consumes-trans}
use Rattle.client_sessions.proofs.Filling.{broken, drained, grown}
use Rattle.byte_streams.proofs.Faults.{on_error}
use Rattle.client_sessions.proofs.transfers.fill.Goals as goal

pub loop-count-preserved : goal.loop-count-preserved
loop-count-preserved g c =
    let from = c.loop-count.count in
    let joined = grown from (length c.loop-count.buffer - from) c.in_ok-more.more c.loop-count.buffer c.read.new.buffer
    c.loop-count.invariant.within c.in_ok-more.ensures.bound.0 in
    record {
      within = search rules;
      read = subst (Consumes _ _) (sym joined) (Consumes-trans _ _ _ _ _ c.loop-count.invariant.read c.in_ok-more.ensures.bytes.0);
      counted = search rules;
    }

pub returns-in_err-more-clause-filled : goal.returns-in_err-more-clause-filled
returns-in_err-more-clause-filled g c = on_error _ _ c.from_residual.ensures.0
    (broken _ _ _ c.loop-count.count c.loop-count.buffer _ (search rules) c.loop-count-test.true c.loop-count.invariant.read
    c.in_err-more.ensures.bytes)

pub returns-then-more-eq0-clause-filled : goal.returns-then-more-eq0-clause-filled
returns-then-more-eq0-clause-filled g c =
    drained _ _ _ c.loop-count.count _ c.in_ok-more.more c.loop-count.buffer c.read.new.buffer c.loop-count-test.true (search rules)
    c.if-more-eq0.true c.loop-count.invariant.read c.in_ok-more.ensures.bytes (search rules)
