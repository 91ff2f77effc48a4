use Rattle.std.proofs.Common.{◌≡◌, ◌≤◌, ◌∙◌, sym, arith}
use Rattle.std.proofs.lemmas.Grind.{common_steps}
use Rattle.std.proofs.lemmas.List.Elements.{All-drop}
use Rattle.ledger_model.proofs.Lists.{get_take}
use Rattle.commit_board.specs.Seats.{ReaderSeatView}
use Rattle.cluster_workers.proofs.SeatsLeft.{all_dealt, all_reading}
use Rattle.cluster_workers.proofs.running_cluster.board_of.Goals as goal

pub returns-clause-writers : goal.returns-clause-writers
returns-clause-writers c =
    all_dealt c.in_ok-board.board c.args.config.now.replicas c.in_ok-board.writing.items
    (sym c.in_ok-board.writing.ok.0 ∙ c.in_ok-board.ensures.writer_count) c.in_ok-board.ensures.writers

pub returns-clause-looking : goal.returns-clause-looking
returns-clause-looking c =
    let dealt = all_reading c.in_ok-board.board c.in-Some.all c.in_ok-board.reading.items
    (omega (arith, c.in_ok-board.reading.ok.0, c.in_ok-board.ensures.reader_count)) c.in_ok-board.ensures.readers in
    record {
      enough = omega (arith, c.in_ok-looking.looking.ok.0, c.in_ok-looking.ensures.tail_len, c.in_ok-board.ensures.reader_count);
      all = rw c.in_ok-looking.ensures.tail
          (All-drop (λ (s : ReaderSeatView). s.board ≡ c.in_ok-board.board) _ c.in_ok-board.reading.items dealt);
    }

pub returns-clause-readers : goal.returns-clause-readers
returns-clause-readers c =
    λ k lt.
    let all : c.args.readers ≤ c.in-Some.all = omega arith in
    rw c.in_ok-looking.ensures.items (get_take c.args.readers k c.in_ok-board.reading.items lt)
    ∙ c.in_ok-board.ensures.readers k (omega arith)

pub returns-clause-reader_count : goal.returns-clause-reader_count
returns-clause-reader_count c = grind (arith, common_steps)
