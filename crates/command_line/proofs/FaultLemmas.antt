-- The faults of words that clap refuses, and of options with a wrong value.
use Rattle.ledger_model.specs.declared.config.AppKinds.{AppKinds}
use Rattle.ledger_model.specs.declared.config.AppKinds.TheVariants.{Three, OwnAlone}
use Rattle.app_states.specs.ProgramWords.{ProgramWords}
use Rattle.ledger_model.specs.Meanings.{Meanings}
use Rattle.std.proofs.Common.{◌≡◌, ◌∙◌, ℕ, true, List, [], ◌∷◌, refl, sym, subst, inl, inr}
use Rattle.std.specs.Prelude.{◌⊎◌, Option, Some, Result, Ok, Err, IfErr, IsOkAnd, MatchResult}
use Rattle.clap.specs.Words.{HasKind, IsAmong, Kinds, Row, Text, is_simple_and_free, kind_of, subcommand_of}
use Rattle.clap.specs.declared.error.Error.{Error}
use Rattle.clap.specs.declared.error.ErrorKind.TheVariants as kind
use Rattle.clap.proofs.OnLiterals.{clap_on_literals}
use Rattle.command_line.specs.Grammar.{abft_app}
use Rattle.cluster_setup.specs.declared.settings.Settings.{Settings}
use Rattle.command_line.specs.Options.{AsksForText, WantsMemory, options_of}
use Rattle.command_line.specs.Faults.{AskForHelp, AskForHelpAlone, IsRightFault, IsRightIn, IsRightOf, IsRightOption, NamesInput, kinds_of}
use Rattle.command_line.specs.Faults.{rows_in, table_in}
use Rattle.command_line.specs.declared.usage_fault.UsageFault.{UsageFault}
use Rattle.command_line.specs.declared.usage_fault.UsageFault.TheVariants as fault

-- no argument of the program's command has a rule on another one
pub abft_is_free : (program : ProgramWords) → is_simple_and_free (abft_app program) ≡ true
unfolding clap_on_literals
abft_is_free program = by program.name program.first_tx program.kinds
  where
    by : (name tx : Text) (kinds : AppKinds) → is_simple_and_free (abft_app (record { name = name; first_tx = tx; kinds = kinds })) ≡ true
    by name tx Three = refl
    by name tx OwnAlone = refl

-- the error is about an unknown argument, and so are the words
unknown_among : (program : ProgramWords) (words : List Text) (error : Error) → HasKind (kinds_of program words) error → kind_of error ≡ kind.UnknownArgument
    → IsAmong kind.UnknownArgument (kinds_of program words)
unknown_among program words error (inl memory) is = let bad = sym memory ∙ is in absurd cc
unknown_among program words error (inr among) is = subst (λ k. IsAmong k (kinds_of program words)) is among

-- an input that is named
named_right : (program : ProgramWords) (meaning : Meanings) (given : Option (List ℕ)) (words : List Text) (f : UsageFault) → IsAmong kind.UnknownArgument (kinds_of program words) → NamesInput program.name words f
    → IsRightFault program meaning given words f
named_right program meaning given words (fault.NamedInput name input word) among names = (among, names)
named_right program meaning given words f among names = absurd names

-- the fault of words that clap refuses
pub refused_right : (program : ProgramWords) (meaning : Meanings) (given : Option (List ℕ)) (words : List Text) (error : Error) (f : UsageFault) → HasKind (kinds_of program words) error
    → (f ≡ fault.CommandLine error) ⊎ ((kind_of error ≡ kind.UnknownArgument) × NamesInput program.name words f) → IsRightFault program meaning given words f
refused_right program meaning given words error f has (inl same) = subst (IsRightFault program meaning given words) (sym same) has
refused_right program meaning given words error f has (inr (unknown, names)) = named_right program meaning given words f (unknown_among program words error has unknown) names

-- the fault of an option is one of the subcommand that has it
of_found : (kinds : AppKinds) (meaning : Meanings) (given : Option (List ℕ)) (o : Option (Text × List Row)) (f : UsageFault) → IsRightOf kinds meaning given (table_in o) (rows_in o) f
    → IsRightIn kinds meaning given o f
of_found kinds meaning given o fault.NoSubcommand right = absurd right
of_found kinds meaning given o f right = right

pub right_alike : (kinds : AppKinds) (meaning : Meanings) (given : Option (List ℕ)) → {T : Type 0} (Q : T → Settings → Type 0) (o : Option (Text × List Row)) (p : Text × List Row)
    (r : Result T UsageFault)
    (told : Result Settings UsageFault) → o ≡ Some p
    → IfErr r (IsRightOf kinds meaning given (options_of p.0) p.1) → MatchResult r (λ t. IsOkAnd told (Q t)) (λ e. told ≡ Err e)
    → IfErr told (IsRightIn kinds meaning given o)
right_alike kinds meaning given Q o p (Ok t) (Ok s) found right cases = tt
right_alike kinds meaning given Q o p (Ok t) (Err e) found right cases = absurd cases
right_alike kinds meaning given Q o p (Err e) told found right cases =
    subst (λ (x : Result Settings UsageFault). IfErr x (IsRightIn kinds meaning given o)) (sym cases)
    (of_found kinds meaning given o e (subst (λ q. IsRightOf kinds meaning given (table_in q) (rows_in q) e) (sym found) right))

-- the fault of an option of words that clap takes
option_right : (program : ProgramWords) (meaning : Meanings) (given : Option (List ℕ)) (words : List Text) (f : UsageFault) → IsRightOption program meaning given words f → IsRightFault program meaning given words f
option_right program meaning given words (fault.CommandLine error) right = absurd right.1
option_right program meaning given words (fault.NamedInput name input word) right = absurd right.1
option_right program meaning given words fault.NoMemory right = tt
option_right program meaning given words f right = right

pub options_right : (program : ProgramWords) (meaning : Meanings) (given : Option (List ℕ)) → {T : Type 0} (words : List Text) (o : Option (Text × List Row)) (r : Result T UsageFault)
    → kinds_of program words ≡ []
    → o ≡ subcommand_of (abft_app program) words
    → IfErr r (IsRightIn program.kinds meaning given o) → IfErr r (IsRightFault program meaning given words)
options_right program meaning given words o (Ok x) taken found right = tt
options_right program meaning given words o (Err f) taken found right = option_right program meaning given words f
    (taken, subst (λ p. IsRightIn program.kinds meaning given p f) found right)

-- a fault that is the help or the version is what the words ask for
pub asked : (program : ProgramWords) (meaning : Meanings) (given : Option (List ℕ)) (words : List Text) (f : UsageFault) → IsRightFault program meaning given words f → AsksForText f → AskForHelp program words
asked program meaning given words (fault.CommandLine error) (inl memory) (inl help) = let bad = sym memory ∙ help in absurd cc
asked program meaning given words (fault.CommandLine error) (inl memory) (inr version) = let bad = sym memory ∙ version in absurd cc
asked program meaning given words (fault.CommandLine error) (inr among) (inl help) = inl (subst (λ k. IsAmong k (kinds_of program words)) help among)
asked program meaning given words (fault.CommandLine error) (inr among) (inr version) = inr (subst (λ k. IsAmong k (kinds_of program words)) version among)
asked program meaning given words f right asks = absurd asks

module _ (ks : Kinds) where
  some_kind : ks ≡ [] → (ks ≡ kind.DisplayHelp ∷ []) ⊎ (ks ≡ kind.DisplayVersion ∷ []) → ⊥
  some_kind none (inl help) = let bad = sym none ∙ help in absurd cc
  some_kind none (inr version) = let bad = sym none ∙ version in absurd cc

  none_unknown : IsAmong kind.UnknownArgument ks → (ks ≡ kind.DisplayHelp ∷ []) ⊎ (ks ≡ kind.DisplayVersion ∷ []) → ⊥
  none_unknown among (inl help) = one (subst (IsAmong kind.UnknownArgument) help among)
    where
      one : IsAmong kind.UnknownArgument (kind.DisplayHelp ∷ []) → ⊥
      one (inl same) = absurd cc
      one (inr none) = none
  none_unknown among (inr version) = one (subst (IsAmong kind.UnknownArgument) version among)
    where
      one : IsAmong kind.UnknownArgument (kind.DisplayVersion ∷ []) → ⊥
      one (inl same) = absurd cc
      one (inr none) = none

  shown : (error : Error) → HasKind ks error → (ks ≡ kind.DisplayHelp ∷ []) ⊎ (ks ≡ kind.DisplayVersion ∷ [])
      → AsksForText (fault.CommandLine error) ⊎ WantsMemory (fault.CommandLine error)
  shown error (inl memory) alone = inr memory
  shown error (inr among) (inl help) = one (subst (IsAmong (kind_of error)) help among)
    where
      one : IsAmong (kind_of error) (kind.DisplayHelp ∷ []) → AsksForText (fault.CommandLine error) ⊎ WantsMemory (fault.CommandLine error)
      one (inl same) = inl (inl same)
      one (inr none) = absurd none
  shown error (inr among) (inr version) = one (subst (IsAmong (kind_of error)) version among)
    where
      one : IsAmong (kind_of error) (kind.DisplayVersion ∷ [])
          → AsksForText (fault.CommandLine error) ⊎ WantsMemory (fault.CommandLine error)
      one (inl same) = inl (inr same)
      one (inr none) = absurd none

answered : (program : ProgramWords) (meaning : Meanings) (given : Option (List ℕ)) (words : List Text) (f : UsageFault) → IsRightFault program meaning given words f → AskForHelpAlone program words → AsksForText f
    ⊎ WantsMemory f
answered program meaning given words (fault.CommandLine error) right alone = shown (kinds_of program words) error right alone
answered program meaning given words (fault.NamedInput name input word) right alone = absurd (none_unknown (kinds_of program words) right.0 alone)
answered program meaning given words fault.NoMemory right alone = inr tt
answered program meaning given words f right alone = absurd (some_kind (kinds_of program words) right.0 alone)

-- no other fault is one of words that ask for them alone
pub not_alone : (program : ProgramWords) (meaning : Meanings) (given : Option (List ℕ)) (words : List Text) (f : UsageFault) → IsRightFault program meaning given words f → (AsksForText f → ⊥)
    → (WantsMemory f → ⊥)
    → AskForHelpAlone program words → ⊥
not_alone program meaning given words f right other enough alone = neither (answered program meaning given words f right alone)
  where
    neither : AsksForText f ⊎ WantsMemory f → ⊥
    neither (inl asks) = other asks
    neither (inr wants) = enough wants

-- an error of one of no kinds is that memory ran out
pub none_is_memory : (ks : Kinds) (error : Error) → ks ≡ [] → HasKind ks error → kind_of error ≡ kind.OutOfMemory
none_is_memory ks error none (inl memory) = memory
none_is_memory ks error none (inr among) = absurd (subst (IsAmong (kind_of error)) none among)
