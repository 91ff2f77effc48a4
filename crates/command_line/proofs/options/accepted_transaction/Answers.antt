use Rattle.command_line.specs.Faults.{IsRightOf}
use Rattle.std.proofs.Common.{◌≡◌, ◌∙◌, List, ℕ, [], ap, sym}
use Rattle.clap.specs.Words.{found_of, rows_of}
use Rattle.clap.proofs.TakesLemmas.{passed_up}
use Rattle.ledger_model.specs.Replies.{check_reply}
use Rattle.command_line.specs.Options.{IsAccepted, WantsMemory}
use Rattle.command_line.proofs.NumberLemmas.{one_transaction}
use Rattle.command_line.proofs.options.accepted_transaction.Goals as goal

pub returns-in_err-tx-clause-none : goal.returns-in_err-tx-clause-none
returns-in_err-tx-clause-none g c =
    passed_up _ c.in_err-tx.field-0.0
    (λ e. (tx : List ℕ) → IsAccepted (g.A.Application.meaning) (rows_of (found_of c.args.matches.now)) c.args.name.now c.args.kind tx
    → WantsMemory e)
    c.from_residual-in_err-tx.ensures.1 (λ tx i. c.in_err-tx.ensures.none tx i.written)

pub returns-then-code-ne0-clause-none : goal.returns-then-code-ne0-clause-none
returns-then-code-ne0-clause-none g c = λ tx i.
    let same : tx ≡ c.in_ok-tx.tx =
    one_transaction (rows_of (found_of c.args.matches.now)) c.args.name.now _ _ i.written c.in_ok-tx.ensures.some in
    c.if-code-ne0.true (c.check_code-code.ensures ∙ ap (check_reply (g.A.Application.meaning) c.args.kind []) (sym same) ∙ i.checked)

pub returns-then-code-ne0-clause-right : goal.returns-then-code-ne0-clause-right
returns-then-code-ne0-clause-right g c = λ given table takes chosen. (
  takes,
  record {
    has = c.in_ok-word.ensures.some;
    tx = c.in_ok-tx.tx;
    written = c.in_ok-tx.ensures.some;
    kind = c.args.kind;
    chosen = chosen;
    answer = sym c.check_code-code.ensures;
    refused = c.if-code-ne0.true;
  },
)

pub returns-in_err-word-clause-right : goal.returns-in_err-word-clause-right
returns-in_err-word-clause-right g c =
    λ given table takes chosen. passed_up _ c.in_err-word.field-0.0
    (IsRightOf (g.A.Opening.words.kinds) (g.A.Application.meaning) given table (rows_of (found_of c.args.matches.now)))
    c.from_residual.ensures.1 (c.in_err-word.ensures.right (g.A.Opening.words.kinds) (g.A.Application.meaning) given table takes.0)

pub returns-in_err-tx-clause-right : goal.returns-in_err-tx-clause-right
returns-in_err-tx-clause-right g c =
    λ given table takes chosen. passed_up _ c.in_err-tx.field-0.0 (IsRightOf (g.A.Opening.words.kinds) (g.A.Application.meaning) given table
    (rows_of (found_of c.args.matches.now)))
    c.from_residual-in_err-tx.ensures.1 (c.in_err-tx.ensures.right (g.A.Opening.words.kinds) (g.A.Application.meaning) given table takes)
