use Rattle.scenario_texts.specs.Plans.{plan_of}
use Rattle.byte_streams.proofs.Faults.{on_error}
use Rattle.program.proofs.ScenarioLemmas.{bad_read, read_only, scenario_read, simulated, simulated_part, told_bad, told_part}
use Rattle.program.proofs.simulating.simulate.Goals as goal

pub returns-in_err-scenario-clause-plays : goal.returns-in_err-scenario-clause-plays
returns-in_err-scenario-clause-plays g c =
    let (input, (read, in_time)) = c.in_err-scenario.ensures.read in
    on_error _ _ c.from_residual.ensures.0
    (read_only (g.A.Opening.words.kinds) (g.A.Application.meaning) c.args.settings.now input (g.R.Read.remaining c.args.reader.now)
    (g.R.Read.remaining c.read_scenario.new.reader)
    (g.W.Write.contents c.args.writer.now) read in_time)

pub returns-in_err-play-in-Scenario-clause-plays : goal.returns-in_err-play-in-Scenario-clause-plays
returns-in_err-play-in-Scenario-clause-plays g c =
    let (text, (read, (in_time, (to_end, (spells, lawful))))) =
    scenario_read (g.A.Opening.words.kinds) _ c.in-Scenario.scenario _ _ c.in-Scenario.is c.in_ok-scenario.ensures.read in
    on_error _ _ c.from_residual-in_err-play-in-Scenario.ensures.0
    (simulated_part (g.A.Opening.words.kinds) (g.A.Application.meaning) c.args.settings.now text _ _ _ _ read in_time (plan_of c.in-Scenario.scenario) spells
    c.in_err-play-in-Scenario.ensures.plays)

pub returns-in_ok-play-in-Scenario-clause-plays : goal.returns-in_ok-play-in-Scenario-clause-plays
returns-in_ok-play-in-Scenario-clause-plays g c =
    let (text, (read, (in_time, (to_end, (spells, lawful))))) =
    scenario_read (g.A.Opening.words.kinds) _ c.in-Scenario.scenario _ _ c.in-Scenario.is c.in_ok-scenario.ensures.read in
    simulated (g.A.Opening.words.kinds) (g.A.Application.meaning) c.args.settings.now text _ _ _ _ read in_time (plan_of c.in-Scenario.scenario) spells to_end
    c.in_ok-play-in-Scenario.ensures.plays

pub returns-in_err-print_bad_line-in-BadLine-clause-plays : goal.returns-in_err-print_bad_line-in-BadLine-clause-plays
returns-in_err-print_bad_line-in-BadLine-clause-plays g c =
    let (text, (read, (in_time, (shown, bad)))) = bad_read (g.A.Opening.words.kinds) _ c.in-BadLine.number _ _ c.in-BadLine.is c.in_ok-scenario.ensures.read in
    on_error _ _ c.from_residual-in_err-print_bad_line-in-BadLine.ensures.0
    (told_part (g.A.Opening.words.kinds) (g.A.Application.meaning) c.args.settings.now text _ _ _ _ read in_time c.in-BadLine.number bad
    c.in_err-print_bad_line-in-BadLine.ensures.written)

pub returns-in_ok-print_bad_line-in-BadLine-clause-plays : goal.returns-in_ok-print_bad_line-in-BadLine-clause-plays
returns-in_ok-print_bad_line-in-BadLine-clause-plays g c =
    let (text, (read, (in_time, (shown, bad)))) = bad_read (g.A.Opening.words.kinds) _ c.in-BadLine.number _ _ c.in-BadLine.is c.in_ok-scenario.ensures.read in
    told_bad (g.A.Opening.words.kinds) (g.A.Application.meaning) c.args.settings.now text _ _ _ _ read in_time c.in-BadLine.number bad shown
    c.in_ok-print_bad_line-in-BadLine.ensures.written
