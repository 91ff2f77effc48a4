use Rattle.std.proofs.Common.{◌≡◌, ℕ, ◌+◌, Bool, cond, drop, sym, ap, ◌∙◌, arith}
use Rattle.adversary_net.specs.Openings.{is_liar}
use Rattle.adversary_net.proofs.Beginning.{different_from, rest_whole}
use Rattle.adversary_net.proofs.creation.different_of.Goals.{then-not-is_among, else-not-is_among}
use Rattle.adversary_net.proofs.creation.different_of.Goals as goal

pub loop-at-preserved : goal.loop-at-preserved
loop-at-preserved c =
    let from = different_from c.args.replicas.now c.loop-at.at c.index-replicas-at.result c.loop-at-test.true c.index-replicas-at.is in
    let answer : c.is_among.result ≡ is_liar (drop (c.loop-at.at + 1) c.args.replicas.now) c.index-replicas-at.result =
    c.is_among.ensures ∙ ap (λ l. is_liar l c.index-replicas-at.result) (rest_whole c.args.replicas.now (c.loop-at.at + 1)) in
    elim c.if-not-is_among.branch [
      | then-not-is_among w ↦
          let one : ◌≡◌ {A = ℕ} (cond (is_liar (drop (c.loop-at.at + 1) c.args.replicas.now) c.index-replicas-at.result) 0 1) 1 =
          ap (λ (b : Bool). cond b 0 1) (sym answer ∙ w.if-not-is_among.true) in
          (omega (arith, from, one, w.count-is, c.loop-at.invariant.0), omega (arith, w.count-is, c.loop-at.invariant.1))
      | else-not-is_among w ↦
          let none : ◌≡◌ {A = ℕ} (cond (is_liar (drop (c.loop-at.at + 1) c.args.replicas.now) c.index-replicas-at.result) 0 1) 0 =
          ap (λ (b : Bool). cond b 0 1) (sym answer ∙ w.if-not-is_among.false) in
          (omega (arith, from, none, w.count-is, c.loop-at.invariant.0), omega (arith, w.count-is, c.loop-at.invariant.1))
    ]
