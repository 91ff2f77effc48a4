use Rattle.std.proofs.Common.{◌≡◌, ℕ, ◌<◌, ◌-◌, ◌^◌, List, ◌++◌, ◌∷◌, [], refl, sym, ap, arith}
use Rattle.std.proofs.lemmas.List.{append-nil}
use Rattle.commit_board.specs.Seats.{replicas_of, ReadAtOnce}
use Rattle.commit_board.proofs.Least.{next_read, still_below, still_one}
use Rattle.commit_board.proofs.board.Board.least.Goals as goal

pub loop-replica-init : goal.loop-replica-init
loop-replica-init c = record {
  reads = [];
  in_order = record {
    each = refl;
    seen = ap (λ (l : List (ℕ × ℕ)). record c.args.seat.now { seen = l }) (sym (append-nil c.args.seat.now.seen));
    steps = tt;
  };
  below = λ k d within. absurd (omega arith);
  one = λ some. absurd (omega arith);
  none = λ _. refl;
}

pub loop-replica-preserved : goal.loop-replica-preserved
loop-replica-preserved c =
    let n : ℕ = c.loop-replica.replica in
    let h : ℕ = c.read.result in
    let i = c.loop-replica.invariant in
    let seen : c.read.new.seat ≡ record c.loop-replica.seat { seen = c.loop-replica.seat.seen ++ (n, h) ∷ [] } =
    rw c.new.ensures at c.read.ensures.seen in
    let step : ReadAtOnce c.loop-replica.seat.seen n h c.read.new.seat.seen = rw c.new.ensures at c.read.ensures.step in
    let below = still_below c.loop-replica.least h n i.reads i.below in
    let one = still_one c.loop-replica.least h n (2 ^ 32 - 1) i.reads i.one i.none (omega arith) in
    record {
      reads = i.reads ++ (n, h) ∷ [];
      in_order = next_read c.args.seat.now c.loop-replica.seat c.read.new.seat n h i.reads i.in_order seen step;
      below = rw c.min-least.ensures below;
      one = λ _. rw c.min-least.ensures one;
      none = λ e. absurd (omega arith);
    }

pub returns : goal.returns
returns c =
    let all : c.loop-replica.replica ≡ replicas_of c.args.self.now = omega arith in
    let i = c.loop-replica.invariant in
    let some : 0 < c.loop-replica.replica = omega arith in
    record {
      reads = i.reads;
      in_order = rw (sym all) i.in_order;
      below = rw c.new-2.ensures i.below;
      one = rw c.new-2.ensures (i.one some);
    }
