use Rattle.std.proofs.Common.{◌≡◌, ◌+◌, ◌≤◌, false, sym, subst, ◌∙◌, rules, arith}
use Rattle.std.specs.Prelude.{Result, Ok, Err, OnOk, vec_len}
use Rattle.std.specs.Result.{is_err}
use Rattle.std.specs.Vec.{vec_capacity}
use Rattle.std.proofs.lemmas.Result.{err_from_is_err_and}
use Rattle.adversary_net.specs.WorldViews.{IsCluster}
use Rattle.adversary_net.proofs.Running.{refused_step}
use Rattle.adversary_net.proofs.OneStep.{without_room, is_within, has_room, left_alone, taken}
use Rattle.adversary_net.proofs.world.World.step.Goals as goal

pub returns-in_err-replica : goal.returns-in_err-replica
returns-in_err-replica g c =
    let p = err_from_is_err_and c.from_residual.result c.from_residual.ensures.1 in
    rw (p.1, p.2) (refused_step (g.A.Application.meaning) c.args.self.now c.args.step.now _
    (subst (IsCluster (g.A.Application.meaning)) c.self.view_is c.self.invariant)
    c.in_err-replica.ensures)

pub returns-then-is_err : goal.returns-then-is_err
returns-then-is_err g c =
    without_room (g.A.Application.meaning) c.self.view_is c.self.invariant c.args.step.now c.in_ok-replica.ensures c.reserve.new.self.items
    (search rules)

pub index_mut-party-requires : goal.index_mut-party-requires
index_mut-party-requires g c =
    let place : c.from.result ≡ c.in_ok-replica.replica = search rules in
    omega (
      arith,
      is_within (g.A.Application.meaning) c.self.view_is c.self.invariant c.args.step.now c.in_ok-replica.ensures place,
      c.self.inside.parties.ok,
    )

pub apply_to-requires : goal.apply_to-requires
apply_to-requires g c =
    let place : c.from.result ≡ c.in_ok-replica.replica = search rules in
    record {
      room = has_room (g.A.Application.meaning) c.self.view_is c.self.invariant c.args.step.now c.in_ok-replica.ensures place
          c.index_mut-party.ensures.value;
    }

pub invariant_of-self-in_default : goal.invariant_of-self-in_default
invariant_of-self-in_default g c =
    let place : c.from.result ≡ c.in_ok-replica.replica = search rules in
    let went = left_alone (g.A.Application.meaning) c.self.view_is c.self.invariant c.args.step.now c.in_ok-replica.ensures place
    c.index_mut-party.ensures.value
    c.apply_to.new.party c.reserve.new.self.items c.in_default.ensures.err (search rules) in
    went.cluster

pub returns-in_default : goal.returns-in_default
returns-in_default g c =
    let place : c.from.result ≡ c.in_ok-replica.replica = search rules in
    left_alone (g.A.Application.meaning) c.self.view_is c.self.invariant c.args.step.now c.in_ok-replica.ensures place
    c.index_mut-party.ensures.value
    c.apply_to.new.party c.reserve.new.self.items c.in_default.ensures.err (search rules)

pub invariant_of-self-2 : goal.invariant_of-self-2
invariant_of-self-2 g c =
    let place : c.from.result ≡ c.in_ok-replica.replica = search rules in
    let went = taken (g.A.Application.meaning) c.self.view_is c.self.invariant c.args.step.now c.in_ok-replica.ensures place
    c.index_mut-party.ensures.value
    c.in-Ok.index c.apply_to.new.party c.push.new.self.items c.in-Ok.ensures.applied (search rules) in
    went.cluster

pub returns : goal.returns
returns g c =
    let place : c.from.result ≡ c.in_ok-replica.replica = search rules in
    taken (g.A.Application.meaning) c.self.view_is c.self.invariant c.args.step.now c.in_ok-replica.ensures place
    c.index_mut-party.ensures.value
    c.in-Ok.index c.apply_to.new.party c.push.new.self.items c.in-Ok.ensures.applied (search rules)

-- what holds where a result is no error
where_ok : {T E : Type 0} (r : Result T E) (P : Type 0) → is_err r ≡ false → OnOk r P → P
where_ok (Ok x) P ok holds = holds
where_ok (Err e) P ok holds = absurd cc

-- room was made for the replica's number
pub unreachable-requires : goal.unreachable-requires
unreachable-requires g c =
    let order = c.reserve.new.self in
    let room : vec_len order + 1 ≤ vec_capacity order =
    where_ok c.reserve.result (vec_len order + 1 ≤ vec_capacity order) (sym c.is_err.ensures.value ∙ c.if-is_err.false)
    c.reserve.ensures.ok in
    omega (arith, room, c.in-Err.ensures.full)
