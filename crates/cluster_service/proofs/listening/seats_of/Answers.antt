use Rattle.std.proofs.Common.{◌≡◌, ◌++◌, ◌∷◌, [], rules, arith}
use Rattle.std.proofs.lemmas.Grind.{elements}
use Rattle.std.proofs.lemmas.List.Elements.{All-push, All-tail}
use Rattle.std.specs.Vec.Iter.{into_iter_items}
use Rattle.commit_board.specs.Seats.{ReaderSeatView}
use Rattle.cluster_service.proofs.listening.seats_of.Goals as goal

pub loop-reader-preserved : goal.loop-reader-preserved
loop-reader-preserved g c =
    let grown : c.push.new.self.items ≡ c.loop-reader.seats.items ++ (record { number = c.len-number.result; targets = c.new-targets.result }) ∷ [] =
    search rules in
    record {
      count = grind (arith, elements);
      cluster = rw grown (All-push (λ s. s.targets.cluster.now ≡ c.args.cluster.now) c.loop-reader.seats.items _
          c.loop-reader.invariant.cluster c.new-targets.ensures.cluster);
      budgets = rw grown (All-push (λ s. s.targets.budgets.now ≡ c.args.budgets.now) c.loop-reader.seats.items _
          c.loop-reader.invariant.budgets c.new-targets.ensures.budgets);
      readers = All-tail (λ (r : ReaderSeatView). r.board ≡ c.args.cluster.now.board) c.in-Some.reader (into_iter_items c.next.new.self)
          (rw c.in-Some.ensures.steps.0 at c.loop-reader.invariant.readers);
    }
