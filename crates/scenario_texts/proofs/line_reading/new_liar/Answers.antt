use Rattle.std.proofs.Common.{◌≡◌, ◌<◌, true, false, length, ap, rules, arith}
use Rattle.std.specs.Prelude.{◌==◌, Some}
use Rattle.std.specs.List.{list_any}
use Rattle.scenario_texts.specs.Plans.{plan_of}
use Rattle.scenario_texts.proofs.PlanReading.{is_new_liar-true}
use Rattle.scenario_texts.proofs.line_reading.new_liar.Goals as goal

pub returns : goal.returns
returns c =
    let none : (length c.args.scenario.now.commands.items == 0) ≡ true = search rules in
    let room : length c.args.scenario.now.setup.liars.items < c.args.scenario.now.setup.config.faults =
    omega (arith, c.len.ensures, c.from.ensures) in
    let within : c.args.number < c.args.scenario.now.setup.config.replicas = omega arith in
    let fresh : list_any (λ liar. liar == c.args.number) c.args.scenario.now.setup.liars.items ≡ false = search rules in
    let is = is_new_liar-true (plan_of c.args.scenario.now) c.args.number none room within fresh in
    rw is (ap Some c.new.ensures)
