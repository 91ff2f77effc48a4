use Rattle.std.proofs.Common.{◌≡◌, ◌<◌, ◌≤◌, ℕ, ◌+◌, false, true, ◌∙◌, length, refl, sym, ap, subst, arith}
use Rattle.std.specs.List.{AllByRecursion}
use Rattle.std.specs.Option.{option_copied}
use Rattle.std.specs.Vec.Iter.{into_iter_len}
use Rattle.ledger_model.specs.Groups.{history_of}
use Rattle.run_picture.specs.Collected.{AddsRow, Collects}
use Rattle.run_picture.proofs.Rows.{rows_none, rows_more}
use Rattle.run_picture.proofs.picture.collect.Goals as goal

pub loop-number-init : goal.loop-number-init
loop-number-init g c =
    let apps = c.into_iter-apps.ensures.rest in
    let len = c.into_iter-apps.ensures.len in (
      rows_none (g.A.Application.meaning) c.args.scope.now.config c.args.verifier.now.ring c.args.scope.now.part c.args.histories.now
          c.nothing_collected-collected.result
          c.nothing_collected-collected.ensures,
      refl,
      enough c.args.scope.now.config.replicas (into_iter_len c.into_iter-apps.result) c.args.apps.len (length c.args.apps.items) len
          c.args.apps.ok.0 c.requires.enough,
      subst (AllByRecursion _) (sym apps) c.requires.opening,
    )
  where
    enough : (n a b d : ℕ) → a ≡ b → b ≡ d → n ≤ d → n ≤ 0 + a
    enough n a b d is len le = omega (arith, is, len, le)

pub unreachable-requires : goal.unreachable-requires
unreachable-requires g c =
    none_left (c.in_default.ensures.variant.1 (some_left c.args.scope.now.config.replicas c.loop-number.number
    (into_iter_len c.loop-number.apps) c.loop-number-test.true c.loop-number.invariant.2))
  where
    some_left : (n k d : ℕ) → k < n → n ≤ k + d → 0 < d
    some_left n k d less le = omega (arith, less, le)

    none_left : false ≡ true → ⊥
    none_left e = cc

pub loop-number-preserved : goal.loop-number-preserved
loop-number-preserved g c =
    let config = c.args.scope.now.config in
    let part = c.args.scope.now.part in
    let histories = c.args.histories.now in
    let n = c.loop-number.number in
    let ring = c.loop-number.invariant.1 in
    let is : c.new-replica.result ≡ n = c.new-replica.ensures in
    let of : option_copied c.history_of-history.result ≡ history_of histories n =
    c.history_of-history.ensures ∙ ap (history_of histories) is in (
      rows_more (g.A.Application.meaning) config c.args.verifier.now.ring part histories n c.loop-number.collected c.add_row.new.collected
          c.loop-number.invariant.0
          (subst (λ h. AddsRow (g.A.Application.meaning) config c.args.verifier.now.ring part n h c.loop-number.collected
          c.add_row.new.collected) of
          (subst (λ q. AddsRow (g.A.Application.meaning) config c.args.verifier.now.ring part q
          (option_copied c.history_of-history.result) c.loop-number.collected
          c.add_row.new.collected) is
          (subst (λ r. AddsRow (g.A.Application.meaning) config r part c.new-replica.result
          (option_copied c.history_of-history.result) c.loop-number.collected
          c.add_row.new.collected) ring c.in_ok-add_row.ensures.adds))),
      c.in_ok-add_row.ensures.ring ∙ ring,
      left config.replicas n (into_iter_len c.next.new.self) (into_iter_len c.loop-number.apps) c.loop-number.invariant.2
          (c.in-Some.ensures.cases.1),
      (subst (AllByRecursion _) c.in-Some.ensures.items (c.loop-number.invariant.3)).1,
    )
  where
    left : (n k x y : ℕ) → n ≤ k + y → x + 1 ≡ y → n ≤ k + 1 + x
    left n k x y le is = omega (arith, le, is)

pub returns : goal.returns
returns g c =
    subst (λ n. Collects (g.A.Application.meaning) c.args.scope.now.config c.args.verifier.now.ring c.args.scope.now.part
    c.args.histories.now n
    c.loop-number.collected) (all c.loop-number.number c.args.scope.now.config.replicas c.loop-number-test.false (c.loop-number.auto.number-end))
    c.loop-number.invariant.0
  where
    all : (k n : ℕ) → n ≤ k → k ≤ n → k ≡ n
    all k n le ge = omega (arith, le, ge)
