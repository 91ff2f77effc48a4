use Rattle.std.proofs.Common.{◌++◌, ◌∙◌}
use Rattle.byte_streams.proofs.Faults.{on_error, passed}
use Rattle.program.specs.Faults.{FailsAfter}
use Rattle.program.proofs.CauseLemmas.{if_stops, stops_anyway}
use Rattle.program.proofs.StreamLemmas.{reading_unfailed}
use Rattle.program.proofs.PieceLemmas.{piece_behind, piece_stops, piece_told, piece_lost}
use Rattle.program.proofs.frame_stream.deliver_piece.Goals as goal

pub fault_of-requires : goal.fault_of-requires
fault_of-requires g c =
    let (kept, reading) = c.requires in
    reading_unfailed c.args.frames.now.version c.args.frames.now.state kept c.args.piece.now c.in-Err.fault c.feed.new.self.state reading
    c.in-Err.ensures.fault

pub fault_behind-requires : goal.fault_behind-requires
fault_behind-requires g c =
    let (kept, reading) = c.requires in (
      kept ++ c.args.piece.now,
      (
        c.in-Ok.found.items,
        rw c.feed.ensures.version (rw reading at c.in-Ok.ensures.frames),
      ),
    )

pub returns-in_ok-deliver_all-in-Ok-clause-goes : goal.returns-in_ok-deliver_all-in-Ok-clause-goes
returns-in_ok-deliver_all-in-Ok-clause-goes g c = λ start unread now left before so_far read.
    piece_behind (g.A.Application.meaning) start _ _ unread now left before _ _ _ c.args.piece.now so_far read _ c.feed.new.self _ _
    (c.feed.ensures.version ∙ so_far.version) (c.fault_behind.ensures.version ∙ c.feed.ensures.version ∙ so_far.version)
    c.in-Ok.ensures.frames
    c.in_ok-deliver_all-in-Ok.ensures.prints c.fault_behind.ensures.behind

pub returns-in_err-deliver_all-in-Ok-clause-goes : goal.returns-in_err-deliver_all-in-Ok-clause-goes
returns-in_err-deliver_all-in-Ok-clause-goes g c = λ start unread now left before so_far read.
    on_error _ _ c.from_residual.ensures.0
    (piece_stops (g.A.Application.meaning) start _ _ unread now left before _ _ _ c.args.piece.now so_far read _ c.feed.new.self
    c.in-Ok.ensures.frames
    c.in_err-deliver_all-in-Ok.ensures.prints)

pub returns-in_ok-fault_of-in-Err-clause-goes : goal.returns-in_ok-fault_of-in-Err-clause-goes
returns-in_ok-fault_of-in-Err-clause-goes g c = λ start unread now left before so_far read.
    piece_told (g.A.Application.meaning) start _ start unread now left before _ before _ c.args.piece.now so_far read _ c.feed.new.self _
    c.in-Err.ensures.fault
    c.in_ok-fault_of-in-Err.ensures.fault

pub returns-in_err-fault_of-in-Err-clause-goes : goal.returns-in_err-fault_of-in-Err-clause-goes
returns-in_err-fault_of-in-Err-clause-goes g c = λ start unread now left before so_far read.
    on_error _ _ c.from_residual-in_err-fault_of-in-Err.ensures.0
    (piece_lost (g.A.Application.meaning) start _ start unread now left before _ before _ c.args.piece.now so_far read)

pub returns-in_ok-deliver_all-in-Ok-clause-cause : goal.returns-in_ok-deliver_all-in-Ok-clause-cause
returns-in_ok-deliver_all-in-Ok-clause-cause g c = if_stops _ _ c.fault_behind.ensures.memory

pub returns-in_err-fault_of-in-Err-clause-cause : goal.returns-in_err-fault_of-in-Err-clause-cause
returns-in_err-fault_of-in-Err-clause-cause g c =
    passed _ c.in_err-fault_of-in-Err.field-0.0 (FailsAfter _) c.from_residual-in_err-fault_of-in-Err.ensures.1
    (stops_anyway _ _ c.in_err-fault_of-in-Err.ensures.memory)
