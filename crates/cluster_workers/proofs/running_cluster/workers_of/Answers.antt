use Rattle.std.proofs.Common.{◌≡◌, ℕ, ◌++◌, ◌∷◌, [], List, length, ap, ◌∙◌, rules, arith}
use Rattle.std.specs.Arc.{arc_value}
use Rattle.std.specs.Vec.Iter.{into_iter_items}
use Rattle.std.proofs.lemmas.Grind.{common_steps}
use Rattle.std.proofs.lemmas.List.Elements.{All-head, All-tail}
use Rattle.commit_board.specs.Seats.{BoardId, WriterSeatView, ReaderSeatView}
use Rattle.cluster_workers.specs.RunningClusters.{PeerInbox, WorkerView, peers_from, worker_of}
use Rattle.cluster_workers.proofs.Peers.{AreLinked, all_linked, linked_more}
use Rattle.cluster_workers.proofs.SeatsLeft.{some_left, one_taken, first_reading}
use Rattle.cluster_workers.proofs.running_cluster.workers_of.Goals as goal

pub new-turn_taker-requires-clause-seat : goal.new-turn_taker-requires-clause-seat
new-turn_taker-requires-clause-seat g c =
    let taken = one_taken (arc_value c.args.board.now) c.args.count c.loop-number.number (into_iter_items c.loop-number.seats)
    c.in-Some.seat (into_iter_items c.next.new.self) c.loop-number-test.true
    c.loop-number.invariant.seats c.in-Some.ensures.cases.0 in
    let board = ap (λ (w : WriterSeatView). w.board) taken.0 in
    cc (board, c.in_ok-try_clone.ensures)

pub new-turn_taker-requires-clause-reader : goal.new-turn_taker-requires-clause-reader
new-turn_taker-requires-clause-reader g c =
    let board = first_reading (arc_value c.args.board.now) c.in-Some-next.reader (into_iter_items c.next-in-loop-number.new.self)
    (rw c.in-Some-next.ensures.cases.0 at c.loop-number.invariant.looking) in
    cc (board, c.in_ok-try_clone.ensures)

pub unreachable-requires : goal.unreachable-requires
unreachable-requires g c =
    let some = some_left (arc_value c.args.board.now) c.args.count c.loop-number.number (into_iter_items c.loop-number.seats)
    c.loop-number-test.true c.loop-number.invariant.seats in
    omega (arith, some, c.in_default.ensures.cases.0, c.loop-number.seats.rest.ok)

pub loop-number-init : goal.loop-number-init
loop-number-init g c = record {
  workers = (c.in_ok-receivers.receivers.items, (search rules, search rules, search rules));
  seats = search rules;
  enough = grind (arith, common_steps);
  looking = search rules;
  receivers = grind (arith, common_steps);
  senders = grind (arith, common_steps);
}

pub loop-number-preserved : goal.loop-number-preserved
loop-number-preserved g c =
    let board = arc_value c.args.board.now in
    let plan = c.args.plan in
    let version = c.args.version in
    let number = c.loop-number.number in
    let taken = one_taken (arc_value c.args.board.now) c.args.count number (into_iter_items c.loop-number.seats) c.in-Some.seat
    (into_iter_items c.next.new.self) c.loop-number-test.true
    c.loop-number.invariant.seats c.in-Some.ensures.cases.0 in
    let was = c.loop-number.invariant.workers in
    let peers = peers_from 0 was.0 in
    let inbox = c.in-Some-next-2.receiver in
    let worker : WorkerView = c.new.result in
    let grown : c.push.new.self.items ≡ c.loop-number.workers.items ++ worker ∷ [] = search rules in
    let own = ap (λ (w : WriterSeatView). w.replica) taken.0 in
    let turn_taker = ap (λ (w : WriterSeatView). w.replica) c.new-turn_taker.ensures in
    let published = ap (λ (w : WriterSeatView). w.board) c.new-turn_taker.ensures ∙ ap (λ (w : WriterSeatView). w.board) taken.0 in
    let others = rw c.in-Some-next-3.ensures.cases.0 at was.1.1 in
    let all : c.in-Some-next-3.senders.items ≡ peers =
    All-head (λ s. s.items ≡ peers) c.in-Some-next-3.senders (into_iter_items c.next-in-loop-number-3.new.self) others in
    let linked : AreLinked board version plan number peers c.loop-number.workers.items
    (inbox ∷ into_iter_items c.next-in-loop-number-2.new.self) =
    rw c.in-Some-next-2.ensures.cases.0 at was.1.2 in
    let is : worker ≡ worker_of board version plan peers (record { replica = number; inbox = inbox }) =
    c.new.ensures
    ∙ ap (λ (b : BoardId). worker_of b version plan c.in-Some-next-3.senders.items
    (record { replica = c.new-turn_taker.result.seat.replica; inbox = inbox })) published
    ∙ ap (λ (k : ℕ). worker_of board version plan c.in-Some-next-3.senders.items (record { replica = k; inbox = inbox }))
    (turn_taker ∙ own)
    ∙ ap (λ (l : List PeerInbox). worker_of board version plan l (record { replica = number; inbox = inbox })) all in
    record {
      workers = (
        was.0,
        (
          was.1.0,
          All-tail (λ s. s.items ≡ peers) c.in-Some-next-3.senders (into_iter_items c.next-in-loop-number-3.new.self) others,
          rw grown (linked_more board version plan number peers c.loop-number.workers.items inbox
              (into_iter_items c.next-in-loop-number-2.new.self) worker is linked),
        ),
      );
      seats = taken.1;
      enough = omega (arith, ap length c.in-Some-next.ensures.cases.0, c.loop-number.invariant.enough);
      looking = All-tail (λ (s : ReaderSeatView). s.board ≡ arc_value c.args.board.now) c.in-Some-next.reader
          (into_iter_items c.next-in-loop-number.new.self)
          (rw c.in-Some-next.ensures.cases.0 at c.loop-number.invariant.looking);
      receivers = grind (arith, common_steps);
      senders = grind (arith, common_steps);
    }

pub returns : goal.returns
returns g c =
    let was = c.loop-number.invariant.workers in
    let left = into_iter_items c.loop-number.receivers in
    let none : length left ≡ 0 = omega (arith, c.loop-number.invariant.receivers, c.loop-number-test.false) in
    record {
      inboxes = was.0;
      count = was.1.0;
      are = all_linked (arc_value c.args.board.now) c.args.version c.args.plan c.loop-number.number
          (peers_from 0 was.0) c.loop-number.workers.items left none
          was.1.2;
    }
