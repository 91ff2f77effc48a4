use Rattle.std.proofs.Common.{◌≡◌, sym, ap, ◌∙◌, take, arith, length}
use Rattle.std.proofs.Math.Seq.{take-length}
use Rattle.std.specs.Prelude.{option_copied}
use Rattle.tally.specs.Tallies.{all_read}
use Rattle.tally.specs.Readings.{reports_of}
use Rattle.phase_core.specs.Choices.{is_found_by}
use Rattle.ledger_model.proofs.Lists.{there_at}
use Rattle.phase_core.proofs.Listed.{least_listed, least_more, with_found}
use Rattle.phase_core.proofs.choice.least_found.Goals as goal
use Rattle.phase_core.proofs.choice.least_found.Goals.{in-Some, in_default}

pub loop-reported-preserved : goal.loop-reported-preserved
loop-reported-preserved c =
    let values = c.values-reported-items.result.now in
    let e = c.reported-item.result in
    let more = least_more c.args.config.now c.args.reports.now values c.loop-reported.reported-index e (option_copied c.loop-reported.least)
    c.loop-reported-test.true c.reported-item.is c.loop-reported.invariant in
    let known = c.values-reported-items.ensures.each e
    (there_at values c.loop-reported.reported-index e c.loop-reported-test.true c.reported-item.is) in
    elim c.match-found.branch [
      | in-Some w ↦
          ap option_copied w.least-is ∙ w.lesser.ensures
          ∙ sym (more ∙ ap (with_found (option_copied c.loop-reported.least)) (sym (c.found.ensures known) ∙ ap option_copied w.in-Some.is))
      | in_default w ↦
          ap option_copied w.least-is
          ∙ sym (more ∙ ap (with_found (option_copied c.loop-reported.least)) (sym (c.found.ensures known)
          ∙ ap option_copied w.in_default.is))
    ]

pub returns : goal.returns
returns c =
    let test = is_found_by c.args.config.now (reports_of (all_read c.args.reports.now)) in
    let all : take c.loop-reported.reported-index c.values-reported-items.result.now ≡ c.values-reported-items.result.now =
    let end : c.loop-reported.reported-index ≡ length c.values-reported-items.result.now = omega arith in
    rw end (take-length c.values-reported-items.result.now) in
    rw all at c.loop-reported.invariant
    ∙ least_listed c.args.reports.now c.values-reported-items.result.now c.values-reported-items.ensures test
