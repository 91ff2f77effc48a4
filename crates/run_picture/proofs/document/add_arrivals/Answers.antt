use Rattle.run_picture.specs.declared.sources.Arrival.{Arrival}
use Rattle.run_picture.specs.Arrows.{arrival_text}
use Rattle.run_picture.proofs.Joining.{each_next, each_last}
use Rattle.run_picture.proofs.document.add_arrivals.Goals as goal

pub loop-arrival-preserved : goal.loop-arrival-preserved
loop-arrival-preserved c =
    let x : Arrival = c.arrival-item.result in
    each_next (arrival_text c.args.layout.now c.args.sent.now) c.args.arrivals.now c.loop-arrival.arrival-index x c.loop-arrival.out.items
    c.add_arrival.new.out.items c.args.out.now.items
    c.loop-arrival-test.true c.arrival-item.is c.loop-arrival.invariant c.in_ok-add_arrival.ensures

pub returns : goal.returns
returns c =
    each_last (arrival_text c.args.layout.now c.args.sent.now) c.args.arrivals.now c.loop-arrival.arrival-index c.loop-arrival.out.items
    c.args.out.now.items c.loop-arrival-test.false c.loop-arrival.invariant
