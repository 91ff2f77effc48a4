use Rattle.run_picture.proofs.IncomingOrder.{sorted_incoming}
use Rattle.run_picture.proofs.incoming.ordered_frames_to.Goals as goal

pub returns : goal.returns
returns c =
    sorted_incoming c.args.sent.now c.args.numbers.now.numbers.items c.args.to c.in_ok-frames.frames.items c.sort.new.self.items
    c.in_ok-frames.ensures
    c.in_ok-sort.ensures.permutation c.in_ok-sort.ensures.sorted
