use Rattle.std.proofs.Common.{◌≡◌, ◌+◌, ◌∷◌, ◌++◌, ℕ, List, length, drop, rules, sym, ap, subst, refl, ◌∙◌, append_assoc}
use Rattle.std.specs.List.{flat_map, AllByRecursion}
use Rattle.std.proofs.lemmas.List.Concat.{flat_map-cons}
use Rattle.ledger_model.specs.Spelling.{IsSignedReport, signed_bytes}
use Rattle.signed_frames.proofs.LockParts.{cut}
use Rattle.signed_frames.proofs.lending.LentReportsIterator.next.Goals as goal

-- the first report comes before the others
pub report_at-part-requires-clause-front : goal.report_at-part-requires-clause-front
report_at-part-requires-clause-front c =
    let first = c.in_ok-signed.signed.now in
    let others = c.in_ok-signed.others.now in
    let rest = c.self.invariant.spelled.0 in
    let is : c.self.inside.reports.now ≡ first ∷ others = search rules in (
      flat_map signed_bytes others ++ rest,
      c.self.invariant.spelled.1 ∙ ap (λ x. flat_map signed_bytes x ++ rest) is
          ∙ ap (λ (x : List ℕ). x ++ rest) (flat_map-cons signed_bytes first others)
          ∙ append_assoc (signed_bytes first) (flat_map signed_bytes others) rest,
    )

pub invariant_of-self : goal.invariant_of-self
invariant_of-self c =
    let first = c.in_ok-signed.signed.now in
    let others = c.in_ok-signed.others.now in
    let rest = c.self.invariant.spelled.0 in
    let is : c.self.inside.reports.now ≡ first ∷ others = search rules in
    let whole : drop c.self.inside.at c.self.inside.frame.now ≡ signed_bytes first ++ (flat_map signed_bytes others ++ rest) =
    c.self.invariant.spelled.1 ∙ ap (λ x. flat_map signed_bytes x ++ rest) is
    ∙ ap (λ (x : List ℕ). x ++ rest) (flat_map-cons signed_bytes first others)
    ∙ append_assoc (signed_bytes first) (flat_map signed_bytes others) rest in
    record {
      each = (
        c.self.invariant.each.0,
        (subst (AllByRecursion (IsSignedReport c.self.invariant.each.0)) is c.self.invariant.each.1).1,
      );
      spelled = (
        rest,
        (cut c.self.inside.frame.now (signed_bytes first) (flat_map signed_bytes others ++ rest) c.self.inside.at
            c.report_at-part.result.1 whole c.report_at-part.ensures.behind).1,
      );
      short = c.self.invariant.short;
    }
