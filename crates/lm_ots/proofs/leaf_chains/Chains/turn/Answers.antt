use Rattle.std.proofs.Common.{◌≡◌, ◌≤◌, ◌<◌, ◌-◌, [], slice_index, slice_index_or, slice_set, refl, sym, ap, subst, inl, inr, ◌∙◌, arith}
use Rattle.std.proofs.lemmas.List.{get_or-set_same, get_or-set_other}
use Rattle.std.proofs.lemmas.Bool.{cases_lt, cases_eq}
use Rattle.lm_ots.specs.declared.leaf_chains.Chains.{Chains}
use Rattle.lm_ots.specs.Ends.{end_of}
use Rattle.lm_ots.proofs.EndLemmas.{end_of-others, turned}
use Rattle.lm_ots.proofs.leaf_chains.Chains.turn.Goals as goal

pub loop-lane-preserved : goal.loop-lane-preserved
loop-lane-preserved c =
    let old = c.args.self.now in
    let now = c.loop-lane.self in
    let new = c.set.new.self in
    let kept = c.loop-lane.invariant in
    let k = c.loop-lane.lane in
    let low : k < 8 = c.loop-lane-test.true in
    let p = slice_index c.args.picks k in
    let inside : p < 67 = c.requires.picks k low in
    let many = c.set.ensures.many in
    let set = c.set.ensures.set in
    let left = slice_index c.lefts_after-lefts.result k in
    let fewer : left ≡ slice_index old.left p - c.args.count = c.lefts_after-lefts.ensures k low in
    let end : end_of new p ≡ end_of old p =
    turned old now new p c.args.count _ left _ (slice_index_or c.steps_each.new.messages k []) _ c.messages-messages.ensures.named
    kept.identifier kept.leaf
    (c.messages-messages.ensures.messages k low) (c.steps_each.ensures.place k low) (λ n. c.steps_each.ensures.rest k n low) fewer
    (c.requires.count k low) refl c.value_in.ensures.value set
    (omega (arith, many.0)) (omega (arith, many.1)) (omega (arith, many.2)) in
    let lefts : new.left ≡ slice_set now.left p left = ap (λ (d : Chains). d.left) set in
    let same : slice_index new.left p ≡ left =
    ap (λ xs. slice_index xs p) lefts ∙ get_or-set_same now.left p left 0 (omega (arith, many.2)) in
    record {
      identifier = ap (λ (d : Chains). d.identifier) set ∙ kept.identifier;
      leaf = ap (λ (d : Chains). d.leaf) set ∙ kept.leaf;
      ends = λ i below. elim (cases_eq i p) [
        | inl here ↦ subst (λ j. end_of new j ≡ end_of old j) (sym here) end
        | inr other ↦ end_of-others now new p _ _ _ set i other ∙ kept.ends i below
      ];
      taken = λ j below. elim (cases_lt j k) [
        | inl before ↦ elim (cases_eq (slice_index c.args.picks j) p) [
          | inl here ↦ ap (λ q. slice_index new.left q) here ∙ same ∙ fewer ∙ ap (λ q. slice_index old.left q - c.args.count) (sym here)
          | inr other ↦ ap (λ xs. slice_index xs (slice_index c.args.picks j)) lefts
              ∙ get_or-set_other now.left p (slice_index c.args.picks j) left 0 other ∙ kept.taken j before
        ]
        | inr last ↦
            let e : k ≡ j = omega arith in
            subst (λ l. slice_index new.left (slice_index c.args.picks l)
            ≡ slice_index old.left (slice_index c.args.picks l) - c.args.count) e (same ∙ fewer)
      ];
      fewer = λ i below. elim (cases_eq i p) [
        | inl here ↦ subst (λ q. slice_index new.left q ≤ slice_index old.left q) (sym here) (omega (arith, same, fewer))
        | inr other ↦
            let e = ap (λ xs. slice_index xs i) lefts ∙ get_or-set_other now.left p i left 0 other in
            omega (arith, e, kept.fewer i below)
      ];
    }
