use Rattle.std.proofs.Common.{◌≡◌, rules, ap, ◌∙◌, not, take}
use Rattle.std.specs.Prelude.{filter}
use Rattle.std.proofs.lemmas.Fn.{filter_same}
use Rattle.ledger_model.specs.Values.{same_value}
use Rattle.proper_sets.proofs.Orders.{filter-ascends, take-ascends}
use Rattle.proper_sets.proofs.ascending.Ascending.keep_least_others.Goals as goal

pub invariant_of-self : goal.invariant_of-self
invariant_of-self c =
    let kept : c.retain.new.self.items ≡ filter (λ v. not (same_value c.args.value.now v)) c.self.inside.values.items =
    filter_same _ _ _ (λ x b f' k. search rules) _ _ c.retain.ensures.filtered in
    rw (c.truncate.ensures.items, kept)
    (take-ascends c.args.count (filter (λ v. not (same_value c.args.value.now v)) c.self.inside.values.items)
    (filter-ascends (λ v. not (same_value c.args.value.now v)) c.self.inside.values.items c.self.invariant))

pub returns : goal.returns
returns c =
    let kept : c.retain.new.self.items ≡ filter (λ v. not (same_value c.args.value.now v)) c.self.inside.values.items =
    filter_same _ _ _ (λ x b f' k. search rules) _ _ c.retain.ensures.filtered in
    c.truncate.ensures.items ∙ ap (take c.args.count) (kept ∙ ap (filter (λ v. not (same_value c.args.value.now v))) c.self.view_is)
