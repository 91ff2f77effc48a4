use Rattle.run_picture.specs.declared.sent_frames.SentFrame.{SentFrame}
use Rattle.run_picture.specs.Arrows.{sent_text}
use Rattle.run_picture.proofs.Joining.{each_next, each_last}
use Rattle.run_picture.proofs.document.add_all_sent.Goals as goal

pub loop-frame-preserved : goal.loop-frame-preserved
loop-frame-preserved c =
    let x : SentFrame = c.frame-item.result in
    each_next (sent_text c.args.layout.now) c.args.sent.now c.loop-frame.frame-index x c.loop-frame.out.items c.add_sent.new.out.items
    c.args.out.now.items
    c.loop-frame-test.true c.frame-item.is c.loop-frame.invariant c.in_ok-add_sent.ensures

pub returns : goal.returns
returns c =
    each_last (sent_text c.args.layout.now) c.args.sent.now c.loop-frame.frame-index c.loop-frame.out.items c.args.out.now.items
    c.loop-frame-test.false c.loop-frame.invariant
