use Rattle.std.proofs.Common.{◌≡◌, rules, sym, ap, ◌∙◌, true, false, length}
use Rattle.std.specs.Prelude.{unwrap_or}
use Rattle.std.specs.List.{list_any, insert, position}
use Rattle.ledger_model.specs.Values.{Value, same_value, is_below, with_value}
use Rattle.ledger_model.proofs.Below.{with_value_ascends}
use Rattle.proper_sets.proofs.Orders.{with_value-found, with_value-placed}
use Rattle.proper_sets.proofs.ascending.Ascending.put.Goals as goal

pub returns-then-contains-clause-ok : goal.returns-then-contains-clause-ok
returns-then-contains-clause-ok c =
    let found : list_any (λ w. same_value w c.args.value.now) c.self.inside.values.items ≡ true =
    ap (list_any (λ w. same_value w c.args.value.now)) (sym c.deref.ensures.value) ∙ sym c.contains.ensures.value ∙ c.if-contains.true in
    rw (← c.self.view_is) (sym (with_value-found c.args.value.now c.self.inside.values.items c.self.invariant found))

-- what stands there after the insertion
placed : (c : goal.In_ok-insert) → c.insert.new.self.items ≡ with_value c.args.value.now c.self.inside.values.items
placed c =
    let missing : list_any (λ w. same_value w c.args.value.now) c.self.inside.values.items ≡ false =
    ap (list_any (λ w. same_value w c.args.value.now)) (sym c.deref.ensures.value) ∙ sym c.contains.ensures.value ∙ c.if-contains.false in
    let sought : c.unwrap_or-place.result ≡ unwrap_or (position (is_below c.args.value.now) c.self.inside.values.items)
    (length c.self.inside.values.items) = search rules in
    let copied : c.in_ok-copy.field-0 ≡ c.args.value.now = c.in_ok-copy.ensures.same in
    c.in_ok-insert.ensures.items ∙ ap (λ (v : Value). insert c.self.inside.values.items c.unwrap_or-place.result v) copied
    ∙ sym (with_value-placed c.args.value.now c.self.inside.values.items c.unwrap_or-place.result missing sought)

pub invariant_of-self-2 : goal.invariant_of-self-2
invariant_of-self-2 c = rw (placed c) (with_value_ascends c.args.value.now c.self.inside.values.items c.self.invariant)

pub returns-clause-ok : goal.returns-clause-ok
returns-clause-ok c = placed c ∙ ap (with_value c.args.value.now) c.self.view_is
