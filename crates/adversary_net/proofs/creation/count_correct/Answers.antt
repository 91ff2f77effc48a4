use Rattle.std.proofs.Common.{◌≡◌, ℕ, ◌+◌, Bool, cond, sym, ap, ◌∙◌, arith}
use Rattle.adversary_net.specs.Openings.{is_liar}
use Rattle.adversary_net.proofs.Beginning.{correct_more}
use Rattle.adversary_net.proofs.creation.count_correct.Goals.{then-not-is_among, else-not-is_among}
use Rattle.adversary_net.proofs.creation.count_correct.Goals as goal

pub loop-replica-preserved : goal.loop-replica-preserved
loop-replica-preserved c =
    let r = c.loop-replica.replica in
    let more = correct_more c.args.liars.now 0 r in
    let here : 0 + r ≡ c.new.result = omega (arith, c.new.ensures) in
    let answer : c.is_among.result ≡ is_liar c.args.liars.now (0 + r) = c.is_among.ensures ∙ ap (is_liar c.args.liars.now) (sym here) in
    elim c.if-not-is_among.branch [
      | then-not-is_among w ↦
          let one : ◌≡◌ {A = ℕ} (cond (is_liar c.args.liars.now (0 + r)) 0 1) 1 =
          ap (λ (b : Bool). cond b 0 1) (sym answer ∙ w.if-not-is_among.true) in
          (omega (arith, more, one, w.count-is, c.loop-replica.invariant.0), omega (arith, w.count-is, c.loop-replica.invariant.1))
      | else-not-is_among w ↦
          let none : ◌≡◌ {A = ℕ} (cond (is_liar c.args.liars.now (0 + r)) 0 1) 0 =
          ap (λ (b : Bool). cond b 0 1) (sym answer ∙ w.if-not-is_among.false) in
          (omega (arith, more, none, w.count-is, c.loop-replica.invariant.0), omega (arith, w.count-is, c.loop-replica.invariant.1))
    ]
