-- The map's entries, as bytes.
use Rattle.std.proofs.Common.{◌∙◌, ap, ◌≡◌}
use Rattle.std.specs.BTreeMap.{insert_entry}
use Rattle.app_kinds.specs.Sorted.{pair_bytes}
use Rattle.app_kinds.proofs.Entries.{byte_cmp, shown-insert_entry, sorted-shown, AreShort-insert_entry}
use Rattle.app_kinds.proofs.pairs.Pairs.set.Goals as goal

pub invariant_of-self-2 : goal.invariant_of-self-2
invariant_of-self-2 c =
    let after : pair_bytes c.insert.new.self.entries
    ≡ insert_entry byte_cmp (pair_bytes c.self.inside.values.entries) c.args.key.now c.args.value.now =
    rw (← c.in_ok-key.ensures.items, ← c.in_ok-value.ensures.items)
    (ap pair_bytes c.in_ok-insert.ensures.entries ∙ shown-insert_entry c.self.inside.values.entries c.in_ok-key.key c.in_ok-value.value) in
    rw after (AreShort-insert_entry _ _ _ c.self.invariant c.requires.key c.requires.value)

pub returns-clause-ok : goal.returns-clause-ok
returns-clause-ok c = rw (← c.self.view_is, ← c.in_ok-key.ensures.items, ← c.in_ok-value.ensures.items)
    (ap pair_bytes c.in_ok-insert.ensures.entries ∙ shown-insert_entry c.self.inside.values.entries c.in_ok-key.key c.in_ok-value.value)

pub returns-clause-ordered : goal.returns-clause-ordered
returns-clause-ordered c = rw (← c.self.view_is) (sorted-shown _ c.insert.ensures.was_ordered)
