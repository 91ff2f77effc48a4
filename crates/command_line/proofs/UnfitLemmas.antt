-- Which faults say nothing of the cluster that was given.
use Rattle.std.proofs.Common.{◌≡◌, [], ◌∷◌, ℕ, List, codes, sym, subst}
use Rattle.std.specs.Prelude.{Option, Result, Ok, Err, IfErr, IsOkAnd, MatchResult}
use Rattle.clap.specs.Words.{Row, Text}
use Rattle.cluster_setup.specs.declared.public_cluster.PublicCluster.{PublicCluster}
use Rattle.cluster_setup.specs.declared.settings.Settings.{Settings}
use Rattle.ledger_model.specs.declared.config.AppKinds.{AppKinds}
use Rattle.ledger_model.specs.Meanings.{Meanings}
use Rattle.command_line.specs.Faults.{IsRightFault, IsRightOf, IsUnfit, kinds_of}
use Rattle.command_line.specs.Options.{HasOption, OptionTable, WantsMemory, draw_options}
use Rattle.command_line.specs.declared.usage_fault.UsageFault.{UsageFault}
use Rattle.command_line.specs.declared.usage_fault.UsageFault.TheVariants as fault
use Rattle.app_states.specs.ProgramWords.{ProgramWords}

-- the table of the options that audits and pictures have beside those of a cluster and its file
abbrev pub plain_options : OptionTable
plain_options = record draw_options { names = codes "receipt" ∷ codes "height" ∷ codes "first" ∷ codes "last" ∷ [] }

-- a fault of an option of a table without `--cluster`
pub unfit_of : (kinds : AppKinds) (meaning : Meanings) (seed : Option (List ℕ)) (given : Option PublicCluster) (table : OptionTable) (rows : List Row)
    (e : UsageFault) → (HasOption kinds table (codes "cluster") → ⊥) → IsRightOf kinds meaning seed table rows e → IsUnfit kinds given e
unfit_of kinds meaning seed given table rows (fault.ClusterFile file) none right = absurd (none right.0)
unfit_of kinds meaning seed given table rows e none right = tt

-- the same of a result
pub unfit_result : (kinds : AppKinds) (meaning : Meanings) (seed : Option (List ℕ)) (given : Option PublicCluster) (table : OptionTable) (rows : List Row)
    {T : Type 0} (r : Result T UsageFault) → (HasOption kinds table (codes "cluster") → ⊥) → IfErr r (IsRightOf kinds meaning seed table rows)
    → IfErr r (IsUnfit kinds given)
unfit_result kinds meaning seed given table rows (Ok x) none right = tt
unfit_result kinds meaning seed given table rows (Err e) none right = unfit_of kinds meaning seed given table rows e none right

-- the error of a subcommand is that of all settings
pub error_alike : (P : UsageFault → Type 0) {T : Type 0} (Q : T → Settings → Type 0) (r : Result T UsageFault) (told : Result Settings UsageFault)
    → IfErr r P → MatchResult r (λ t. IsOkAnd told (Q t)) (λ e. told ≡ Err e) → IfErr told P
error_alike P Q (Ok t) (Ok s) is cases = tt
error_alike P Q (Ok t) (Err e) is cases = absurd cases
error_alike P Q (Err e) told is cases = subst (λ (x : Result Settings UsageFault). IfErr x P) (sym cases) is

-- a fault of words that clap refuses
pub unfit_refused : (program : ProgramWords) (meaning : Meanings) (seed : Option (List ℕ)) (words : List Text) (given : Option PublicCluster)
    (e : UsageFault) → (kinds_of program words ≡ [] → WantsMemory e) → IsRightFault program meaning seed words e → IsUnfit program.kinds given e
unfit_refused program meaning seed words given (fault.ClusterFile file) memory right = absurd (memory right.0)
unfit_refused program meaning seed words given e memory right = tt
