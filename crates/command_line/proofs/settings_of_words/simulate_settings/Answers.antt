use Rattle.command_line.specs.Options.{simulate_options, SetsSimulate}
use Rattle.std.proofs.Common.{refl}
use Rattle.command_line.specs.Faults.{IsRightOf}
use Rattle.clap.proofs.TakesLemmas.{passed_up}
use Rattle.clap.specs.Words.{found_of, rows_of}
use Rattle.cluster_setup.specs.declared.simulate_settings.SimulateSettings.{SimulateSettings}
use Rattle.command_line.proofs.NumberLemmas.{on_err}
use Rattle.command_line.proofs.settings_of_words.simulate_settings.Goals as goal

pub returns-in_err-seed-clause-none : goal.returns-in_err-seed-clause-none
returns-in_err-seed-clause-none c =
    on_err {X = (s : SimulateSettings) → SetsSimulate c.args.given (rows_of (found_of c.args.matches.now)) s → ⊥} _
    (λ s i. c.in_err-seed.ensures.none s.seed i.seed)

pub returns-in_err-seed-clause-right : goal.returns-in_err-seed-clause-right
returns-in_err-seed-clause-right c =
    λ kinds meaning. passed_up _ c.in_err-seed.field-0.0 (IsRightOf kinds meaning c.args.given simulate_options (rows_of (found_of c.args.matches.now)))
    c.from_residual.ensures.1
    (c.in_err-seed.ensures.right kinds meaning simulate_options (record { seed = refl; file = refl; words = refl }))
