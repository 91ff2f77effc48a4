use Rattle.std.proofs.Common.{◌≡◌, ◌∙◌, ap, map, subst, sym}
use Rattle.std.specs.Prelude.{◌⊎◌}
use Rattle.clap.specs.Words.{HasKind, app_of, fault_of, is_simple_and_free, kind_of, takes}
use Rattle.clap.specs.declared.error.ErrorKind.TheVariants as kind
use Rattle.command_line.specs.Faults.{NamesInput, kinds_of}
use Rattle.command_line.specs.declared.usage_fault.UsageFault.TheVariants as fault
use Rattle.command_line.specs.Options.{WantsMemory}
use Rattle.command_line.proofs.FaultLemmas.{abft_is_free, none_is_memory, refused_right}
use Rattle.command_line.proofs.MatchesLemmas.{rows_are}
use Rattle.command_line.proofs.settings_of_words.matches_of.Goals as goal

pub returns-in-Ok-clause-found : goal.returns-in-Ok-clause-found
returns-in-Ok-clause-found g c =
    rows_are (g.A.Opening.words) c.in-Ok.matches (app_of c.in_ok-command.command) (map (λ w. w.now) c.args.words.now) c.in_ok-command.ensures
    c.in-Ok.ensures.matches

pub returns-in-Ok-clause-taken : goal.returns-in-Ok-clause-taken
unfolding kinds_of
returns-in-Ok-clause-taken g c =
    ap (λ a. fault_of a (map (λ w. w.now) c.args.words.now)) (sym c.in_ok-command.ensures)
    ∙ c.in-Ok.ensures.kinds (ap is_simple_and_free c.in_ok-command.ensures ∙ abft_is_free (g.A.Opening.words))

pub returns-in-Err-clause-refused : goal.returns-in-Err-clause-refused
returns-in-Err-clause-refused g c = λ taken.
    let memory : kind_of c.in-Err.error ≡ kind.OutOfMemory =
    c.in-Err.ensures.passes (ap (λ a. takes a (map (λ w. w.now) c.args.words.now)) c.in_ok-command.ensures ∙ taken) in
    subst WantsMemory (sym (c.fault_of.ensures.kept (λ unknown. let bad = sym memory ∙ unknown in absurd cc))) memory

pub returns-in-Err-clause-right : goal.returns-in-Err-clause-right
unfolding kinds_of
returns-in-Err-clause-right g c =
    λ meaning given. refused_right (g.A.Opening.words) meaning given (map (λ w. w.now) c.args.words.now) c.in-Err.error c.fault_of.result
    (subst (λ a. HasKind (fault_of a (map (λ w. w.now) c.args.words.now)) c.in-Err.error) c.in_ok-command.ensures
    (c.in-Err.ensures.kinds (ap is_simple_and_free c.in_ok-command.ensures ∙ abft_is_free (g.A.Opening.words))))
    (subst (λ name. (c.fault_of.result ≡ fault.CommandLine c.in-Err.error)
    ⊎ ((kind_of c.in-Err.error ≡ kind.UnknownArgument) × NamesInput name (map (λ w. w.now) c.args.words.now) c.fault_of.result))
    c.name.ensures c.fault_of.ensures.named)

pub returns-in-Err-clause-kinds : goal.returns-in-Err-clause-kinds
unfolding kinds_of
returns-in-Err-clause-kinds g c = λ none.
    let memory : kind_of c.in-Err.error ≡ kind.OutOfMemory =
    none_is_memory (kinds_of (g.A.Opening.words) (map (λ w. w.now) c.args.words.now)) c.in-Err.error none
    (subst (λ a. HasKind (fault_of a (map (λ w. w.now) c.args.words.now)) c.in-Err.error) c.in_ok-command.ensures
    (c.in-Err.ensures.kinds (ap is_simple_and_free c.in_ok-command.ensures ∙ abft_is_free (g.A.Opening.words)))) in
    subst WantsMemory (sym (c.fault_of.ensures.kept (λ unknown. let bad = sym memory ∙ unknown in absurd cc))) memory
