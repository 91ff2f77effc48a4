use Rattle.std.proofs.Common.{◌≡◌, ◌-◌, ◌%◌, arith, refl}
use Rattle.sha_lanes.proofs.lanes.rotate_right.Goals as goal

pub returns : goal.returns
returns c j h =
    let left : c.args.k % 32 ≡ c.args.k = omega arith in
    let right : (32 - c.args.k) % 32 ≡ 32 - c.args.k = omega arith in
    rw (c.or.ensures j h, c.shift_right.ensures j h, c.shift_left.ensures j h, left, right) refl
