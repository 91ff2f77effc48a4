use Rattle.std.proofs.Common.{◌≡◌, ap, sym, ◌∙◌, arith}
use Rattle.std.specs.List.{All}
use Rattle.std.proofs.lemmas.List.Elements.{All-drop, All-take}
use Rattle.std.proofs.lemmas.Option.{get_or_from_slice_get}
use Rattle.commit_board.specs.Seats.{ReaderSeatView, new_reader}
use Rattle.cluster_workers.specs.RunningClusters.{EndedRunView}
use Rattle.cluster_service.proofs.serving.serve_beside.Goals as goal

-- each reader's seat is one of the board of the cluster that is to run
pub seats_of-requires-clause-readers : goal.seats_of-requires-clause-readers
seats_of-requires-clause-readers g c =
    let P : ReaderSeatView → Type 0 = λ r. r.board ≡ c.prepared.inside.cluster.now.board in
    let all : All P c.args.readers.items =
    λ k d within. ap (λ (r : ReaderSeatView). r.board)
    (get_or_from_slice_get c.args.readers.items k (new_reader c.args.prepared.cluster.board) d
    (c.requires.readers k (omega (arith, within, c.args.readers.ok.0))))
    ∙ sym (ap (λ (r : EndedRunView). r.cluster.board) c.prepared.view_is) in
    rw c.in_ok-others.ensures.items (All-take P _ c.args.readers.items all)

pub seats_of-requires-2-clause-readers : goal.seats_of-requires-2-clause-readers
seats_of-requires-2-clause-readers g c =
    let P : ReaderSeatView → Type 0 = λ r. r.board ≡ c.prepared.inside.cluster.now.board in
    let all : All P c.args.readers.items =
    λ k d within. ap (λ (r : ReaderSeatView). r.board)
    (get_or_from_slice_get c.args.readers.items k (new_reader c.args.prepared.cluster.board) d
    (c.requires.readers k (omega (arith, within, c.args.readers.ok.0))))
    ∙ sym (ap (λ (r : EndedRunView). r.cluster.board) c.prepared.view_is) in
    rw c.in_ok-others.ensures.tail (All-drop P _ c.args.readers.items all)
