use Rattle.std.proofs.Common.{◌≡◌, ◌||◌, ◌++◌, refl, ◌∙◌, not, take}
use Rattle.std.specs.Prelude.{filter}
use Rattle.ledger_model.specs.Values.{same_value, with_value}
use Rattle.ledger_model.specs.Proper.{cut}
use Rattle.tally.specs.Tallies.{all_read}
use Rattle.tally.specs.Readings.{reports_of}
use Rattle.proper_sets.specs.Propriety.{named_values, initials, are_all_named_by, is_split_among}
use Rattle.proper_sets.specs.Puts.{with_values}
use Rattle.proper_sets.proofs.Cuts.{IsSmall-cut, cut-put, absorbed-parts}
use Rattle.proper_sets.proofs.proper.Proper.absorb.Goals as goal
use Rattle.proper_sets.proofs.proper.Proper.absorb.Goals.{then-self, else-self}

inside_is : (c : goal.After-drop-self-inside) → c.if-self.self-inside ≡ c.self.inside
inside_is c = elim c.if-self.branch [ then-self w ↦ w.self-inside-is | else-self w ↦ w.self-inside-is ]

explicit_is : (c : goal.After-drop-self-inside) → c.put.new.self
    ≡ with_value c.self.inside.own (take 3 (filter (λ v. not (same_value c.self.inside.own v))
    (with_values (named_values c.self.inside.config c.args.own (reports_of (all_read c.args.reports.now))) c.self.inside.explicit)))
explicit_is c = rw (c.in_ok-put.ensures.ok, c.keep_least_others.ensures, c.in_ok-put_named.ensures, c.in_ok-explicit.ensures.ok) refl

all_is : (c : goal.After-drop-self-inside) → c.if-self.all
    ≡ (c.self.inside.all || are_all_named_by c.self.inside.config c.args.own (reports_of (all_read c.args.reports.now))
    || is_split_among c.self.inside.config (initials c.args.own c.self.inside.own (reports_of (all_read c.args.reports.now))))
all_is c =
    elim c.if-self.branch [
      | then-self w ↦ rw (w.all-is, w.if-self.true) refl
      | else-self w ↦ rw (w.all-is, w.if-self.false) w.make_all_proper-all.ensures
    ]

pub invariant_of-self : goal.invariant_of-self
invariant_of-self c =
    rw (inside_is c, explicit_is c)
    (IsSmall-cut c.self.inside.own (filter (λ v. not (same_value c.self.inside.own v))
    (with_values (named_values c.self.inside.config c.args.own (reports_of (all_read c.args.reports.now))) c.self.inside.explicit)))

pub returns-clause-ok : goal.returns-clause-ok
returns-clause-ok c =
    let cut_is : c.put.new.self ≡ cut c.self.inside.own
    (c.self.inside.explicit ++ named_values c.self.inside.config c.args.own (reports_of (all_read c.args.reports.now))) =
    explicit_is c ∙ cut-put c.self.inside.own c.self.inside.explicit
    (named_values c.self.inside.config c.args.own (reports_of (all_read c.args.reports.now))) c.in_ok-explicit.ensures.ascend in
    rw (← c.self.view_is, inside_is c)
    (absorbed-parts c.self.inside.config c.args.own (reports_of (all_read c.args.reports.now)) c.self.inside.own c.self.inside.all
    c.if-self.all c.self.inside.explicit c.put.new.self (all_is c) cut_is)
