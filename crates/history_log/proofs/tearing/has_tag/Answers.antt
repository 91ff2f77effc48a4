use Rattle.std.proofs.Common.{◌≡◌, ◌+◌, ◌-◌, ◌++◌, take, drop, refl, sym, subst, ◌∙◌, below_more, arith}
use Rattle.std.proofs.lemmas.Bool.{false≢true}
use Rattle.sha2.specs.Hashers.{Holds256}
use Rattle.sha2.specs.Sha256.{sha256}
use Rattle.history_log.specs.Records.{tag_after}
use Rattle.history_log.proofs.TagPlaces.{tag_within, grown, sixteen_at}
use Rattle.history_log.proofs.tearing.has_tag.Goals as goal

pub returns-then-ends_with_tag : goal.returns-then-ends_with_tag
unfolding tag_after
returns-then-ends_with_tag c =
    let found : take (c.loop-n.n + 16 - c.loop-n.n) (drop c.loop-n.n c.args.bytes.now)
    ≡ take 16 (sha256 (c.args.tag ++ take c.loop-n.n c.args.bytes.now)) =
    (c.if-ends_with_tag.ensures (c.args.tag ++ take c.loop-n.n c.args.bytes.now) c.loop-n.invariant.0).0 refl in (
      λ _. (c.loop-n.n, omega (arith, c.loop-n-test.true, c.min-places.ensures), sym (sixteen_at c.args.bytes.now c.loop-n.n) ∙ found),
      λ _. refl,
    )

pub loop-n-preserved : goal.loop-n-preserved
unfolding tag_after
loop-n-preserved c =
    let more : Holds256 c.update.new.self (c.args.tag ++ take c.loop-n.n c.args.bytes.now
    ++ take (c.loop-n.n + 1 - c.loop-n.n) (drop c.loop-n.n c.args.bytes.now)) =
    c.update.ensures (c.args.tag ++ take c.loop-n.n c.args.bytes.now) c.loop-n.invariant.0 in (
      subst (Holds256 c.update.new.self) (grown c.args.tag c.args.bytes.now c.loop-n.n) more,
      below_more _ _ c.loop-n.invariant.1
          (λ has. false≢true ((c.if-ends_with_tag.ensures (c.args.tag ++ take c.loop-n.n c.args.bytes.now) c.loop-n.invariant.0).1
          (sixteen_at c.args.bytes.now c.loop-n.n ∙ has))),
    )

pub returns : goal.returns
returns c = (
  λ yes. absurd (false≢true yes),
  λ has. absurd (c.loop-n.invariant.1 has.0
      (omega (arith, has.1, tag_within c.args.tag c.args.bytes.now has.0 has.2, c.loop-n-test.false, c.min-places.ensures, c.saturating_sub.ensures))
      has.2),
)
