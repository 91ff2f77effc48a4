-- the stream is under way, since the beginning
use Rattle.program.specs.Streams.{UnderWay}
use Rattle.program.proofs.frame_stream.deliver_pieces.Given as goal

abbrev pub invariant-loop : goal.invariant-loop
invariant-loop g l =
    UnderWay (g.A.Application.meaning) l.initial.state (g.R.Read.remaining l.initial.reader) (g.R.Read.remaining l.reader)
    (g.W.Write.contents l.initial.writer)
    (g.W.Write.contents l.writer) l.state l.frames
