use Rattle.std.proofs.Common.{◌≡◌, ◌<◌, ◌≤◌, ℕ, ◌+◌, false, true, ◌∙◌, refl, sym, ap, subst, arith}
use Rattle.std.specs.Prelude.{Ok, Err}
use Rattle.std.proofs.lemmas.Result.{err_from_is_err_and}
use Rattle.history_audit.specs.Followed.{LongestBelow, FollowsOne}
use Rattle.history_audit.proofs.Replaying.{longest_first, longest_without, longest_of_all, follows_one, stops_all, member_of}
use Rattle.std.specs.List.{AllByRecursion}
use Rattle.std.specs.Vec.Iter.{into_iter_len}
use Rattle.ledger_model.specs.Groups.{history_of}
use Rattle.history_audit.proofs.Waiting.{waiting, waiting_all, waiting_less, waiting_one}
use Rattle.history_audit.proofs.following.follow_all.Goals as goal

at_most : {a b d : ℕ} → a ≤ b → b ≤ d → a ≤ d
at_most one other = omega (arith, one, other)

pub loop-number-init : goal.loop-number-init
loop-number-init g c =
    let histories = c.args.histories.now in
    let ring = c.args.verifier.now.ring in
    let apps = c.into_iter-apps.ensures.rest in (
      subst (LongestBelow (g.A.Application.meaning) c.args.config.now ring histories 0) (sym c.new-ledger.ensures)
          (longest_first (g.A.Application.meaning) c.args.config.now ring histories),
      refl,
      subst (λ n. waiting 0 histories ≤ n) (sym c.into_iter-apps.ensures.len) (subst (λ n. waiting 0 histories ≤ n) (sym c.args.apps.ok.0)
          (at_most (waiting_all 0 histories) c.requires.enough)),
      subst (AllByRecursion _) (sym apps) c.requires.opening,
    )

pub follow_one-requires-clause-member : goal.follow_one-requires-clause-member
follow_one-requires-clause-member g c =
    member_of c.args.config.now c.args.histories.now c.loop-number.number c.in-Some.history.now c.requires.count
    (sym (ap (history_of c.args.histories.now) c.new.ensures) ∙ sym c.in-Some.ensures)

pub unreachable-requires : goal.unreachable-requires
unreachable-requires g c =
    let histories = c.args.histories.now in
    let n = c.loop-number.number in
    let found = sym (ap (history_of histories) c.new.ensures) ∙ sym c.in-Some.ensures in
    let one = waiting_one n histories c.in-Some.history.now found in
    none_left (c.in_default-next.ensures.variant.1 (some_left (waiting (n + 1) histories) (waiting n histories)
    (into_iter_len c.loop-number.apps) one (c.loop-number.invariant.2)))
  where
    some_left : (a b d : ℕ) → a + 1 ≤ b → b ≤ d → 0 < d
    some_left a b d one other = omega (arith, one, other)

    none_left : false ≡ true → ⊥
    none_left e = cc

pub returns-in_err-follow_one : goal.returns-in_err-follow_one
returns-in_err-follow_one g c =
    let ring = c.loop-number.invariant.1 in
    let found = subst (λ r. FollowsOne (g.A.Application.meaning) c.args.config.now r c.in-Some.history.now c.loop-number.ledger
    (Err c.in_err-follow_one.field-0.0) c.follow_one.new.ledger) ring c.in_err-follow_one.ensures.answer in
    let p = err_from_is_err_and c.from_residual.result c.from_residual.ensures.1 in
    rw (p.1, p.2) (stops_all (g.A.Application.meaning) c.args.config.now c.args.verifier.now.ring c.args.histories.now c.loop-number.number
    c.loop-number.ledger
    c.in-Some.history.now c.loop-number.invariant.0 (sym (ap (history_of c.args.histories.now) c.new.ensures) ∙ sym c.in-Some.ensures)
    c.in_err-follow_one.field-0.0 c.follow_one.new.ledger found)

pub loop-number-preserved : goal.loop-number-preserved
loop-number-preserved g c =
    let ring = c.loop-number.invariant.1 in
    let histories = c.args.histories.now in
    let n = c.loop-number.number in
    let m = c.in-Some.history.now in
    let found = sym (ap (history_of histories) c.new.ensures) ∙ sym c.in-Some.ensures in
    let followed = subst (λ r. FollowsOne (g.A.Application.meaning) c.args.config.now r m c.loop-number.ledger
    (Ok c.in_ok-follow_one.field-0)
    c.follow_one.new.ledger) ring c.in_ok-follow_one.ensures.answer in (
      follows_one (g.A.Application.meaning) c.args.config.now c.args.verifier.now.ring histories n c.loop-number.ledger m
          c.loop-number.invariant.0 found
          c.in_ok-follow_one.field-0 c.follow_one.new.ledger followed,
      c.in_ok-follow_one.ensures.ring ∙ ring,
      left (waiting (n + 1) histories) (waiting n histories) (into_iter_len c.next.new.self) (into_iter_len c.loop-number.apps)
          (waiting_one n histories m found) (c.loop-number.invariant.2) (c.in-Some-next.ensures.cases.1),
      (subst (AllByRecursion _) c.in-Some-next.ensures.items (c.loop-number.invariant.3)).1,
    )
  where
    left : (a b x y : ℕ) → a + 1 ≤ b → b ≤ y → x + 1 ≡ y → a ≤ x
    left a b x y one other is = omega (arith, one, other, is)

pub loop-number-preserved-in_default : goal.loop-number-preserved-in_default
loop-number-preserved-in_default g c =
    let histories = c.args.histories.now in
    let n = c.loop-number.number in (
      longest_without (g.A.Application.meaning) c.args.config.now c.args.verifier.now.ring histories n c.loop-number.ledger
          c.loop-number.invariant.0
          (sym (ap (history_of histories) c.new.ensures) ∙ sym c.in_default.ensures),
      c.loop-number.invariant.1,
      at_most (waiting_less n histories) c.loop-number.invariant.2,
      c.loop-number.invariant.3,
    )

pub returns : goal.returns
returns g c =
    longest_of_all (g.A.Application.meaning) c.args.config.now c.args.verifier.now.ring c.args.histories.now c.loop-number.number
    c.loop-number.ledger
    c.requires.count
    c.loop-number-test.false (c.loop-number.invariant.0)
