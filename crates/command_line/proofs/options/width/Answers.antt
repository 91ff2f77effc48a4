use Rattle.command_line.specs.Faults.{IsRightOf}
use Rattle.clap.proofs.TakesLemmas.{passed_up}
use Rattle.std.proofs.Common.{◌≡◌, ◌∙◌, inl, refl, Some, rules, sym}
use Rattle.std.proofs.lemmas.Option.{same_Some}
use Rattle.clap.specs.Words.{found_of, rows_of}
use Rattle.lm_ots.specs.declared.params.Width.TheVariants.{W4, W8}
use Rattle.command_line.proofs.NumberLemmas.{none_some, no_width}
use Rattle.command_line.proofs.options.width.Goals as goal
use Rattle.command_line.proofs.options.width.Goals.{in_default-via-in-Some+in_default, in_default-via-in_default}

pub returns-in_default-clause-none : goal.returns-in_default-clause-none
returns-in_default-clause-none c =
    let not_one : c.ok.result ≡ Some 4 → ⊥ = elim c.in_default.branch [
      | in_default-via-in-Some+in_default w ↦ λ e. let n : w.in_default.field-0 ≡ 4 =
          same_Some w.in_default.field-0 4 (sym w.in_default.is ∙ e) in search (rules, n)
      | in_default-via-in_default w ↦ λ e. none_some 4 (sym w.in_default.is ∙ e)
    ] in
    let not_other : c.ok.result ≡ Some 8 → ⊥ = elim c.in_default.branch [
      | in_default-via-in-Some+in_default w ↦ λ e. let n : w.in_default.field-0 ≡ 8 =
          same_Some w.in_default.field-0 8 (sym w.in_default.is ∙ e) in search (rules, n)
      | in_default-via-in_default w ↦ λ e. none_some 8 (sym w.in_default.is ∙ e)
    ] in
    no_width (rows_of (found_of c.args.matches.now)) c.number.result c.number.ensures.some c.number.ensures.none
    (λ e. not_one (c.ok.ensures.value ∙ e)) (λ e. not_other (c.ok.ensures.value ∙ e))

pub returns-in_default-clause-right : goal.returns-in_default-clause-right
returns-in_default-clause-right c =
    λ kinds meaning given table has. (
      (has, inl (refl, refl, refl)),
      (c.in_ok-word.ensures.some, (returns-in_default-clause-none c W4, returns-in_default-clause-none c W8)),
    )

pub returns-in_err-word-clause-right : goal.returns-in_err-word-clause-right
returns-in_err-word-clause-right c =
    λ kinds meaning given table has. passed_up _ c.in_err-word.field-0.0
    (IsRightOf kinds meaning given table (rows_of (found_of c.args.matches.now))) c.from_residual.ensures.1
    (c.in_err-word.ensures.right kinds meaning given table has)
