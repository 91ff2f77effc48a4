use Rattle.std.proofs.Common.{rules, ◌<◌, length}
use Rattle.std.proofs.KnownBytes.{Keeps-refl}
use Rattle.byte_streams.proofs.Faults.{on_error, passed}
use Rattle.program.specs.Faults.{FailsAfter}
use Rattle.program.proofs.CauseLemmas.{read_stops}
use Rattle.program.proofs.StreamEnds.{begun, ended_of, ends_at, goes_on, stopped_of}
use Rattle.program.proofs.frame_stream.deliver_pieces.Goals as goal

pub loop-init : goal.loop-init
loop-init g c = begun (g.A.Application.meaning) _ _ _ _ c.requires.start c.requires.version

pub returns-in_err-count-clause-ends : goal.returns-in_err-count-clause-ends
returns-in_err-count-clause-ends g c =
    on_error _ _ c.from_residual.ensures.0 (stopped_of (g.A.Application.meaning) _ _ _ _ _ _ _ _ c.loop.invariant
    c.in_err-count.ensures.bytes)

pub returns-then-count-eq0-clause-ends : goal.returns-then-count-eq0-clause-ends
returns-then-count-eq0-clause-ends g c =
    let read = c.in_ok-count.ensures.bytes in
    let some : 0 < length c.read_piece.new.piece = search rules in
    ended_of (g.A.Application.meaning) _ _ _ _ _ _ _ _ _ c.in_ok-count.count c.read_piece.new.piece c.loop.invariant read.0
    c.if-count-eq0.true
    (c.end_of.ensures.no_fault _ (read.1 c.if-count-eq0.true some)) c.end_of.ensures.stands

pub returns-in_err-fault-clause-ends : goal.returns-in_err-fault-clause-ends
returns-in_err-fault-clause-ends g c =
    on_error _ _ c.from_residual-in_err-fault.ensures.0
    (c.in_err-fault.ensures.goes _ _ _ _ _ c.loop.invariant c.in_ok-count.ensures.bytes.0)

pub returns-in-Some-clause-ends : goal.returns-in-Some-clause-ends
returns-in-Some-clause-ends g c =
    ends_at (g.A.Application.meaning) _ _ _ _ _ _ c.deliver_piece.new.frames c.in_ok-fault.field-0 c.in-Some.fault c.in-Some.is
    (c.in_ok-fault.ensures.goes _ _ _ _ _ c.loop.invariant c.in_ok-count.ensures.bytes.0)

pub loop-preserved : goal.loop-preserved
loop-preserved g c =
    goes_on (g.A.Application.meaning) _ _ _ _ _ _ c.deliver_piece.new.frames c.in_ok-fault.field-0 c.in_default.is
    (c.in_ok-fault.ensures.goes _ _ _ _ _ c.loop.invariant c.in_ok-count.ensures.bytes.0)

pub returns-clause-ends : goal.returns-clause-ends
returns-clause-ends g c = stopped_of (g.A.Application.meaning) _ _ _ _ _ _ _ _ c.loop.invariant (Keeps-refl _)

pub returns-in_err-count-clause-cause : goal.returns-in_err-count-clause-cause
returns-in_err-count-clause-cause g c =
    passed _ c.in_err-count.field-0.0 (FailsAfter _) c.from_residual.ensures.1 (read_stops _ _ c.in_err-count.ensures.fault)
