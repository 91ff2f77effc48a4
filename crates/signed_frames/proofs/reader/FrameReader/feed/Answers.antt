use Rattle.signed_frames.proofs.Determined.{is_whole, is_long, is_bad}
use Rattle.signed_frames.proofs.reader.FrameReader.feed.Goals as goal

pub returns-clause-whole : goal.returns-clause-whole
returns-clause-whole c = λ kept rest frames was split.
    is_whole c.args.self.now.version (λ out. out.items) c.args.self.now.state c.take_piece.new.self.state kept c.args.piece.now was
    c.take_piece.result rest frames
    c.take_piece.ensures.frames c.take_piece.ensures.fault split

pub returns-clause-too_long : goal.returns-clause-too_long
returns-clause-too_long c = λ kept frames was breaks.
    is_long c.args.self.now.version (λ out. out.items) c.args.self.now.state c.take_piece.new.self.state kept c.args.piece.now was
    c.take_piece.result frames
    c.take_piece.ensures.frames c.take_piece.ensures.fault breaks

pub returns-clause-malformed : goal.returns-clause-malformed
returns-clause-malformed c = λ kept frames was breaks.
    is_bad c.args.self.now.version (λ out. out.items) c.args.self.now.state c.take_piece.new.self.state kept c.args.piece.now was
    c.take_piece.result frames
    c.take_piece.ensures.frames c.take_piece.ensures.fault breaks
