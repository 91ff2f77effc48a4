use Rattle.command_line.specs.Faults.{IsRightOf}
use Rattle.clap.proofs.TakesLemmas.{passed_up}
use Rattle.std.proofs.Common.{inl, inr}
use Rattle.clap.specs.Words.{found_of, rows_of}
use Rattle.ledger_model.specs.declared.config.AppKind.{AppKind}
use Rattle.ledger_model.specs.declared.config.AppKinds.TheVariants.{Three}
use Rattle.command_line.specs.Options.{SetsKind}
use Rattle.command_line.proofs.KindLemmas.{no_kind, no_text_kind}
use Rattle.command_line.proofs.NumberLemmas.{on_err}
use Rattle.command_line.proofs.options.chosen_kind.Goals as goal

pub returns-in_err-word-clause-none : goal.returns-in_err-word-clause-none
returns-in_err-word-clause-none c =
    on_err {X = (k : AppKind) → SetsKind Three (rows_of (found_of c.args.matches.now)) k → ⊥} _
    (no_text_kind (rows_of (found_of c.args.matches.now)) c.in_err-word.ensures.none)

pub returns-in_err-word-clause-right : goal.returns-in_err-word-clause-right
returns-in_err-word-clause-right c =
    λ kinds meaning given table has. passed_up _ c.in_err-word.field-0.0
    (IsRightOf kinds meaning given table (rows_of (found_of c.args.matches.now))) c.from_residual.ensures.1
    (c.in_err-word.ensures.right kinds meaning given table has)

pub returns-in-Some-clause-some : goal.returns-in-Some-clause-some
returns-in-Some-clause-some c =
    inr (record { word = c.in_ok-word.word.now; has = c.in_ok-word.ensures.some; names = c.in-Some.ensures.some })

pub returns-in-Some-numbered_kind-clause-some : goal.returns-in-Some-numbered_kind-clause-some
returns-in-Some-numbered_kind-clause-some c = inl c.in-Some-numbered_kind.ensures.some

pub returns-in-None-clause-none : goal.returns-in-None-clause-none
returns-in-None-clause-none c =
    no_kind (rows_of (found_of c.args.matches.now)) c.in_ok-word.word.now c.in_ok-word.ensures.some c.in_default.ensures.none
    c.in-None.ensures.none

pub returns-in-None-clause-right : goal.returns-in-None-clause-right
returns-in-None-clause-right c = λ kinds meaning given table has. (has, (c.in_ok-word.ensures.some, returns-in-None-clause-none c))
