use Rattle.std.proofs.Common.{subst}
use Rattle.scenario_texts.specs.Lawful.{IsPlan}
use Rattle.scenario_texts.specs.Lines.{IsBadAt, SpellsPlan}
use Rattle.scenario_texts.specs.Plans.{plan_of}
use Rattle.program.proofs.ScenarioLemmas.{bad_at, bad_shown, spelled_whole}
use Rattle.program.proofs.scenario_input.read_scenario.Goals as goal

pub returns-in-Ok-clause-read : goal.returns-in-Ok-clause-read
returns-in-Ok-clause-read g c =
    let (read, (in_time, to_end)) = c.in_ok-text.ensures.read in
    let plan = plan_of c.in-Ok.scenario in
    let spelled = subst (λ k. SpellsPlan k c.in_ok-text.text.items plan) c.kinds.ensures
    (subst (λ t. SpellsPlan c.kinds.result t plan) c.deref.ensures.value c.in-Ok.ensures.spelled) in (
      c.in_ok-text.text.items,
      (
        read,
        (
          in_time,
          (
            spelled_whole (g.A.Opening.words.kinds) c.in_ok-text.text.items _ plan to_end spelled,
            (spelled, subst (λ k. IsPlan k plan) c.kinds.ensures c.in-Ok.ensures.lawful),
          ),
        ),
      ),
    )

pub returns-in-Err-BadLine-clause-read : goal.returns-in-Err-BadLine-clause-read
returns-in-Err-BadLine-clause-read g c =
    let (read, (in_time, to_end)) = c.in_ok-text.ensures.read in
    let n = c.in-Err-BadLine.number in
    let bad = subst (λ k. IsBadAt k c.in_ok-text.text.items n) c.kinds.ensures (subst (λ t. IsBadAt c.kinds.result t n) c.deref.ensures.value
    (bad_at c.kinds.result c.in-Err-BadLine.field-0 n c.deref.result.now c.in-Err-BadLine.field-0-is c.in-Err-BadLine.ensures.bad)) in
    (c.in_ok-text.text.items, (read, (in_time, (bad_shown (g.A.Opening.words.kinds) c.in_ok-text.text.items _ n to_end bad, bad))))
