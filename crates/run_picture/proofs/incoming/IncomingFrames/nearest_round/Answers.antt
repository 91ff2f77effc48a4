use Rattle.std.proofs.Common.{◌≡◌, ◌+◌, true, false, sym, subst}
use Rattle.std.specs.List.Sorted.{IsPartitionPoint}
use Rattle.run_picture.specs.Incoming.{is_before, IsNearestRound}
use Rattle.run_picture.proofs.IncomingOrder.{latest_is, earliest_is, none_is}
use Rattle.run_picture.proofs.incoming.IncomingFrames.nearest_round.Goals as goal

pub returns-in-Some : goal.returns-in-Some
returns-in-Some c =
    let frames = c.args.self.now.frames.items in
    let number = c.args.number in
    latest_is frames number c.args.round c.requires c.before-end.result c.before-end.ensures.bound
    (subst (λ r. IsPartitionPoint (λ x. is_before number (r + 1) x ≡ true)
    (λ x. is_before number (r + 1) x ≡ false) frames c.before-end.result) c.from.ensures c.before-end.ensures.parts)
    c.in-Some.latest c.in-Some.ensures.some.0 c.in-Some.ensures.some.2 c.in-Some.ensures.some.1

pub returns-in_ok-nearest-in-None : goal.returns-in_ok-nearest-in-None
returns-in_ok-nearest-in-None c =
    let frames = c.args.self.now.frames.items in
    let number = c.args.number in
    earliest_is frames number c.args.round c.requires c.before-end.result c.before-end.ensures.bound
    (subst (λ r. IsPartitionPoint (λ x. is_before number (r + 1) x ≡ true)
    (λ x. is_before number (r + 1) x ≡ false) frames c.before-end.result) c.from.ensures c.before-end.ensures.parts)
    c.in_ok-nearest-in-None.nearest c.in-None.ensures.none c.in_ok-nearest-in-None.ensures.some.1 c.in_ok-nearest-in-None.ensures.some.0

pub returns-in_err-nearest-in-None : goal.returns-in_err-nearest-in-None
returns-in_err-nearest-in-None c =
    let frames = c.args.self.now.frames.items in
    let number = c.args.number in
    subst (IsNearestRound frames number c.args.round) (sym c.from_residual.ensures)
    (none_is frames number c.args.round c.requires c.before-end.result c.before-end.ensures.bound
    (subst (λ r. IsPartitionPoint (λ x. is_before number (r + 1) x ≡ true)
    (λ x. is_before number (r + 1) x ≡ false) frames c.before-end.result) c.from.ensures c.before-end.ensures.parts)
    c.in-None.ensures.none c.in_err-nearest-in-None.ensures.none)
