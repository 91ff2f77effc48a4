use Rattle.scenario_texts.proofs.Endings.{Going, IsBad, too_many, too_long, refused, started, goes_over, goes_further, bad_line, ends_well}
use Rattle.scenario_texts.proofs.Endings.{ends_badly}
use Rattle.scenario_texts.proofs.reading.read.Goals as goal
use Rattle.scenario_texts.proofs.reading.read.Goals.{then-number-gt-MAX_LINES-via-then-number-gt-MAX_LINES}
use Rattle.scenario_texts.proofs.reading.read.Goals.{then-number-gt-MAX_LINES-via-else-number-gt-MAX_LINES+then-line-limit}
use Rattle.scenario_texts.proofs.reading.read.Goals.{then-counts+in_ok-scenario+in-Some-2, else-counts}
use Rattle.scenario_texts.proofs.reading.read.Goals.{in_default-so_far-via-in-Some-so_far+else-is_empty}
use Rattle.scenario_texts.proofs.reading.read.Goals.{in_default-so_far-via-in_default-so_far}
use Rattle.scenario_texts.specs.Lines.{counts}
use Rattle.scenario_texts.specs.Plans.{plan_of}
use Rattle.scenario_texts.specs.Reading.{next_of}
use Rattle.std.proofs.Common.{arith, ◌≡◌, ◌∙◌, ◌+◌, ◌<◌, ◌≤◌, ℕ, true, false, length, sym, ap, subst, inl, inr, refl, rules}
use Rattle.std.proofs.lemmas.Grind.{common_steps}
use Rattle.std.specs.Option.{option_map}
use Rattle.std.specs.Prelude.{◌⊎◌, ◌==◌, Some, None}

pub loop-line-init : goal.loop-line-init
loop-line-init c = started c.args.kinds c.args.text.now

pub returns-then-number-gt-MAX_LINES-clause-only : goal.returns-then-number-gt-MAX_LINES-clause-only
returns-then-number-gt-MAX_LINES-clause-only c = λ plan spells.
    let bad : IsBad c.args.kinds c.loop-line.number (option_map plan_of c.loop-line.so_far) c.in-Some.line.now =
    elim c.then-number-gt-MAX_LINES.branch [
      | then-number-gt-MAX_LINES-via-then-number-gt-MAX_LINES w ↦ too_many w.if-number-gt-MAX_LINES.true
      | then-number-gt-MAX_LINES-via-else-number-gt-MAX_LINES+then-line-limit w ↦ too_long
          (subst (λ (limit : ℕ). limit < length c.in-Some.line.now) c.line_limit-limit.ensures w.if-line-limit.true)
    ] in
    absurd ((bad_line c.args.kinds c.args.text.now c.loop-line.left.now c.loop-line.number (option_map plan_of c.loop-line.so_far) c.in-Some.line.now
    c.in-Some.rest.now c.loop-line.invariant c.in-Some.ensures.0 c.in-Some.ensures.1 bad).1 plan spells)

pub returns-then-number-gt-MAX_LINES-clause-bad : goal.returns-then-number-gt-MAX_LINES-clause-bad
returns-then-number-gt-MAX_LINES-clause-bad c =
    let bad : IsBad c.args.kinds c.loop-line.number (option_map plan_of c.loop-line.so_far) c.in-Some.line.now =
    elim c.then-number-gt-MAX_LINES.branch [
      | then-number-gt-MAX_LINES-via-then-number-gt-MAX_LINES w ↦ too_many w.if-number-gt-MAX_LINES.true
      | then-number-gt-MAX_LINES-via-else-number-gt-MAX_LINES+then-line-limit w ↦ too_long
          (subst (λ (limit : ℕ). limit < length c.in-Some.line.now) c.line_limit-limit.ensures w.if-line-limit.true)
    ] in
    inr (
      c.loop-line.number,
      (
        refl,
        (bad_line c.args.kinds c.args.text.now c.loop-line.left.now c.loop-line.number (option_map plan_of c.loop-line.so_far) c.in-Some.line.now
            c.in-Some.rest.now c.loop-line.invariant c.in-Some.ensures.0 c.in-Some.ensures.1 bad).0,
      ),
    )

pub returns-in_default-2-clause-only : goal.returns-in_default-2-clause-only
returns-in_default-2-clause-only c = λ plan spells.
    let is : counts c.in-Some.line.now ≡ true = search rules in
    let none : next_of c.args.kinds (option_map plan_of c.loop-line.so_far) c.in-Some.line.now ≡ None =
    sym c.in_ok-scenario.ensures ∙ ap (option_map plan_of) c.in_default-2.is in
    absurd ((bad_line c.args.kinds c.args.text.now c.loop-line.left.now c.loop-line.number (option_map plan_of c.loop-line.so_far) c.in-Some.line.now
    c.in-Some.rest.now c.loop-line.invariant c.in-Some.ensures.0 c.in-Some.ensures.1 (refused is none)).1 plan spells)

pub returns-in_default-2-clause-bad : goal.returns-in_default-2-clause-bad
returns-in_default-2-clause-bad c =
    let is : counts c.in-Some.line.now ≡ true = search rules in
    let none : next_of c.args.kinds (option_map plan_of c.loop-line.so_far) c.in-Some.line.now ≡ None =
    sym c.in_ok-scenario.ensures ∙ ap (option_map plan_of) c.in_default-2.is in
    inr (
      c.loop-line.number,
      (
        refl,
        (bad_line c.args.kinds c.args.text.now c.loop-line.left.now c.loop-line.number (option_map plan_of c.loop-line.so_far) c.in-Some.line.now
            c.in-Some.rest.now c.loop-line.invariant c.in-Some.ensures.0 c.in-Some.ensures.1 (refused is none)).0,
      ),
    )

pub loop-line-preserved : goal.loop-line-preserved
loop-line-preserved c = elim c.if-counts.branch [
  | then-counts+in_ok-scenario+in-Some-2 w ↦
      let is : counts c.in-Some.line.now ≡ true = sym c.counts.ensures ∙ w.if-counts.true in
      let next : next_of c.args.kinds (option_map plan_of c.loop-line.so_far) c.in-Some.line.now ≡ Some (plan_of w.in-Some-2.scenario) =
      sym w.in_ok-scenario.ensures ∙ ap (option_map plan_of) w.in-Some-2.is in
      subst (Going c.args.kinds c.args.text.now c.in-Some.rest.now (c.loop-line.number + 1)) (sym (ap (option_map plan_of) w.so_far-is))
      (goes_further c.args.kinds c.args.text.now c.loop-line.left.now c.loop-line.number (option_map plan_of c.loop-line.so_far) c.in-Some.line.now
      c.in-Some.rest.now (plan_of w.in-Some-2.scenario)
      c.loop-line.invariant c.in-Some.ensures.0 c.in-Some.ensures.1 c.if-number-gt-MAX_LINES.false
      (subst (λ (limit : ℕ). length c.in-Some.line.now ≤ limit) c.line_limit-limit.ensures c.if-line-limit.false) is next)
  | else-counts w ↦
      let over : counts c.in-Some.line.now ≡ false = sym c.counts.ensures ∙ w.if-counts.false in
      subst (Going c.args.kinds c.args.text.now c.in-Some.rest.now (c.loop-line.number + 1)) (sym (ap (option_map plan_of) w.so_far-is))
      (goes_over c.args.kinds c.args.text.now c.loop-line.left.now c.loop-line.number (option_map plan_of c.loop-line.so_far) c.in-Some.line.now
      c.in-Some.rest.now
      c.loop-line.invariant c.in-Some.ensures.0 c.in-Some.ensures.1 c.if-number-gt-MAX_LINES.false
      (subst (λ (limit : ℕ). length c.in-Some.line.now ≤ limit) c.line_limit-limit.ensures c.if-line-limit.false) over)
]

pub returns-in-Some-so_far-clause-spelled : goal.returns-in-Some-so_far-clause-spelled
returns-in-Some-so_far-clause-spelled c =
    (ends_well c.args.kinds c.args.text.now c.loop-line.left.now c.loop-line.number (option_map plan_of c.loop-line.so_far)
    (plan_of c.in-Some-so_far.scenario) c.loop-line.invariant (sym c.is_empty.ensures ∙ c.if-is_empty.true)
    (ap (option_map plan_of) c.in-Some-so_far.is)).0

pub returns-in-Some-so_far-clause-lawful : goal.returns-in-Some-so_far-clause-lawful
returns-in-Some-so_far-clause-lawful c =
    (ends_well c.args.kinds c.args.text.now c.loop-line.left.now c.loop-line.number (option_map plan_of c.loop-line.so_far)
    (plan_of c.in-Some-so_far.scenario) c.loop-line.invariant (sym c.is_empty.ensures ∙ c.if-is_empty.true)
    (ap (option_map plan_of) c.in-Some-so_far.is)).0.lawful

pub returns-in-Some-so_far-clause-only : goal.returns-in-Some-so_far-clause-only
returns-in-Some-so_far-clause-only c =
    (ends_well c.args.kinds c.args.text.now c.loop-line.left.now c.loop-line.number (option_map plan_of c.loop-line.so_far)
    (plan_of c.in-Some-so_far.scenario) c.loop-line.invariant (sym c.is_empty.ensures ∙ c.if-is_empty.true)
    (ap (option_map plan_of) c.in-Some-so_far.is)).1

pub returns-in_default-so_far-clause-only : goal.returns-in_default-so_far-clause-only
returns-in_default-so_far-clause-only c = λ plan spells.
    let bad : ((length c.loop-line.left.now == 0) ≡ false) ⊎ (option_map plan_of c.loop-line.so_far ≡ None) =
    elim c.in_default-so_far.branch [
      | in_default-so_far-via-in-Some-so_far+else-is_empty w ↦ inl (sym w.is_empty.ensures ∙ w.if-is_empty.false)
      | in_default-so_far-via-in_default-so_far w ↦ inr (ap (option_map plan_of) w.in_default-so_far.is)
    ] in
    absurd ((ends_badly c.args.kinds c.args.text.now c.loop-line.left.now c.loop-line.number (option_map plan_of c.loop-line.so_far)
    c.loop-line.invariant c.in_default.ensures bad).1 plan spells)

pub returns-in_default-so_far-clause-bad : goal.returns-in_default-so_far-clause-bad
returns-in_default-so_far-clause-bad c =
    let bad : ((length c.loop-line.left.now == 0) ≡ false) ⊎ (option_map plan_of c.loop-line.so_far ≡ None) =
    elim c.in_default-so_far.branch [
      | in_default-so_far-via-in-Some-so_far+else-is_empty w ↦ inl (sym w.is_empty.ensures ∙ w.if-is_empty.false)
      | in_default-so_far-via-in_default-so_far w ↦ inr (ap (option_map plan_of) w.in_default-so_far.is)
    ] in
    inr (
      c.loop-line.number,
      (
        refl,
        (ends_badly c.args.kinds c.args.text.now c.loop-line.left.now c.loop-line.number (option_map plan_of c.loop-line.so_far) c.loop-line.invariant
            c.in_default.ensures bad).0,
      ),
    )

pub loop-line-smaller : goal.loop-line-smaller
loop-line-smaller c = grind (arith, common_steps)
