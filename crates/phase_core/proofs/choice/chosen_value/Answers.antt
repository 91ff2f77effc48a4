use Rattle.std.proofs.Common.{rules}
use Rattle.std.specs.Option.{option_copied}
use Rattle.tally.specs.Tallies.{all_read}
use Rattle.tally.specs.Readings.{reports_of}
use Rattle.phase_core.specs.Choices.{is_found_by}
use Rattle.phase_core.specs.Least.{values_named}
use Rattle.phase_core.proofs.Least.{least_from_none}
use Rattle.phase_core.proofs.Choosing.{chosen_own, chosen_other, found_if_some, none_if_none}
use Rattle.phase_core.proofs.choice.chosen_value.Goals as goal

pub returns-then-is_found-clause-chosen : goal.returns-then-is_found-clause-chosen
returns-then-is_found-clause-chosen c =
    let is = chosen_own c.args.config.now (reports_of (all_read c.args.reports.now)) c.args.own.now in search rules

pub returns-clause-chosen : goal.returns-clause-chosen
returns-clause-chosen c =
    let reports = reports_of (all_read c.args.reports.now) in
    let is = chosen_other c.args.config.now reports c.args.own.now in
    let first = least_from_none (is_found_by c.args.config.now reports) (values_named reports) in
    search rules

pub returns-clause-found : goal.returns-clause-found
returns-clause-found c =
    found_if_some c.args.config.now (reports_of (all_read c.args.reports.now)) c.args.own.now (option_copied c.least_found.result)
    (returns-clause-chosen c)

pub returns-clause-none : goal.returns-clause-none
returns-clause-none c =
    none_if_none c.args.config.now (reports_of (all_read c.args.reports.now)) c.args.own.now (option_copied c.least_found.result)
    (returns-clause-chosen c)
