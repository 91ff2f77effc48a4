use Rattle.run_picture.specs.declared.sent_frames.SentFrame.{SentFrame}
use Rattle.run_picture.proofs.Numbering.{numbered_next, all_numbered}
use Rattle.run_picture.proofs.frame_numbers.FrameNumbers.of.Goals as goal

pub loop-frame-preserved : goal.loop-frame-preserved
loop-frame-preserved c =
    let frame : SentFrame = c.frame-item.result in
    numbered_next c.args.sent.now c.loop-frame.strings c.put.new.self c.loop-frame.numbers.items c.push.new.self.items
    c.loop-frame.frame-index
    c.in_ok-put.field-0 frame c.in_ok-clone.field-0 c.loop-frame-test.true c.frame-item.is c.in_ok-clone.ensures.cases
    c.in_ok-put.ensures.strings c.in_ok-put.ensures.position c.in_ok-push.ensures.items c.loop-frame.invariant

pub returns : goal.returns
returns c =
    all_numbered c.args.sent.now c.loop-frame.strings c.loop-frame.numbers.items c.loop-frame.frame-index c.loop-frame.auto.frame-index-end
    c.loop-frame-test.false c.len-distinct.ensures.distinct c.loop-frame.invariant
