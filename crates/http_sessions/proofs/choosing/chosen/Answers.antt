use Rattle.std.proofs.Common.{◌≡◌, ℕ, ◌+◌, [], ◌∷◌, ◌++◌, refl, sym, subst, ◌∙◌, arith}
use Rattle.http_sessions.specs.Exchanges.{Makes}
use Rattle.http_sessions.specs.Choosing.{IsChosen}
use Rattle.http_sessions.proofs.ChoosingLemmas.{asked_more, better, first_asked, no_better}
use Rattle.http_sessions.proofs.choosing.chosen.Goals as goal
use Rattle.http_sessions.proofs.choosing.chosen.Goals.{then-prefers, else-prefers}

pub loop-number-init : goal.loop-number-init
loop-number-init g c =
    let h : ℕ = c.height-best.result in
    record {
      pairs = (0, h) ∷ [];
      chosen = subst (λ (r : ℕ). IsChosen c.args.choice 1 ((0, h) ∷ []) r h) (sym c.new-found.ensures) (first_asked c.args.choice h);
      made = (c.height-best.new.self, rw c.new-found.ensures at c.height-best.ensures.asked, refl);
      known = omega (arith, c.new-found.ensures);
      count = c.height-best.ensures.count;
    }

pub loop-number-preserved : goal.loop-number-preserved
loop-number-preserved g c =
    let i = c.loop-number.invariant in
    let n : ℕ = c.loop-number.number in
    let h : ℕ = c.height-height.result in
    let makes = Makes g.T.Targets.asks g.T.HttpTargets.inquires in
    let replica : c.new-replica.result ≡ n = c.new-replica.ensures in
    let asked = rw replica at c.height-height.ensures.asked in
    let made = asked_more makes c.args.targets.now c.loop-number.targets c.height-height.new.self i.pairs n h i.made asked in
    let count = c.height-height.ensures.count ∙ i.count in
    elim c.if-prefers.branch [
      | then-prefers w ↦ record {
        pairs = i.pairs ++ (n, h) ∷ [];
        chosen = rw (w.found-is, w.best-is)
            (subst (λ (r : ℕ). IsChosen c.args.choice (n + 1) (i.pairs ++ (n, h) ∷ []) r h) (sym replica)
            (better c.args.choice n c.loop-number.found c.loop-number.best h i.pairs i.chosen
            (sym c.prefers.ensures ∙ w.if-prefers.true)));
        made = made;
        known = omega (arith, w.found-is, replica);
        count = count;
      }
      | else-prefers w ↦ record {
        pairs = i.pairs ++ (n, h) ∷ [];
        chosen = rw (w.found-is, w.best-is)
            (no_better c.args.choice n c.loop-number.found c.loop-number.best h i.pairs i.chosen
            (sym c.prefers.ensures ∙ w.if-prefers.false));
        made = made;
        known = omega (arith, w.found-is, i.known);
        count = count;
      }
    ]

pub returns-clause-found : goal.returns-clause-found
returns-clause-found g c =
    let i = c.loop-number.invariant in
    let all : c.loop-number.number ≡ c.args.count = omega (arith, c.loop-number-test.false, c.loop-number.auto.number-end c.requires.some) in
    record {
      pairs = i.pairs;
      height = c.loop-number.best;
      chosen = subst (λ n. IsChosen c.args.choice n i.pairs c.loop-number.found c.loop-number.best) all i.chosen;
      made = i.made;
    }
