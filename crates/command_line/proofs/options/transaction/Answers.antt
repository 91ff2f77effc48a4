use Rattle.command_line.specs.Faults.{IsRightOf}
use Rattle.clap.specs.Words.{found_of, rows_of}
use Rattle.clap.proofs.TakesLemmas.{passed_up}
use Rattle.std.proofs.Common.{◌≡◌, ◌∙◌, ◌≤◌, ℕ, List, inl, inr, length, ap, rules, sym, subst, false, arith}
use Rattle.std.proofs.lemmas.Bool.{cases_lt}
use Rattle.std.specs.Prelude.{is_ok}
use Rattle.std.specs.Vec.{vec_len}
use Rattle.std.proofs.lemmas.Option.{same_Some}
use Rattle.plain_text.specs.Transactions.{StandsFor}
use Rattle.plain_text.proofs.TransactionLemmas.{stands_once}
use Rattle.command_line.proofs.NumberLemmas.{is_transaction}
use Rattle.command_line.proofs.options.transaction.Goals as goal

pub returns-in_default-clause-none : goal.returns-in_default-clause-none
returns-in_default-clause-none c = λ tx i.
    let text : i.text ≡ c.in_ok-text.text.now = same_Some i.text c.in_ok-text.text.now (sym i.has ∙ c.in_ok-text.ensures.some) in
    let read : StandsFor c.in_ok-text.text.now c.in_ok-bytes.bytes.items = c.in_ok-bytes.ensures.some in
    let same : tx ≡ c.in_ok-bytes.bytes.items =
    stands_once c.in_ok-text.text.now tx c.in_ok-bytes.bytes.items (subst (λ t. StandsFor t tx) text i.bytes) read in
    let len : length tx ≡ vec_len c.in_ok-bytes.bytes = ap length same ∙ (search rules) in
    let bad : is_ok c.new.result ≡ false = search (rules, c.in_default.not-Ok, c.in_default.is) in
    is_transaction c.new.result (vec_len c.in_ok-bytes.bytes) c.new.ensures.empty c.new.ensures.too_long bad
    (subst (λ n. 1 ≤ n) len i.some) (subst (λ n. n ≤ 64) len i.short)

pub returns-in_default-clause-right : goal.returns-in_default-clause-right
returns-in_default-clause-right c =
    let text : List ℕ = c.in_ok-text.text.now in
    let bytes : List ℕ = c.in_ok-bytes.bytes.items in
    let none = returns-in_default-clause-none c bytes in
    λ kinds meaning given table has. (
      has,
      record {
        has = c.in_ok-text.ensures.some;
        bytes = bytes;
        stands = c.in_ok-bytes.ensures.some;
        wrong_length = elim (cases_lt 64 (length bytes)) [
          | inl long ↦ inr long
          | inr short ↦ elim (cases_lt 0 (length bytes)) [
            | inl some ↦ absurd (none (record {
              text = text;
              has = c.in_ok-text.ensures.some;
              bytes = c.in_ok-bytes.ensures.some;
              some = omega (arith, some);
              short = short;
            }))
            | inr empty ↦ inl (omega (arith, empty))
          ]
        ];
      },
    )

pub returns-in_err-text-clause-right : goal.returns-in_err-text-clause-right
returns-in_err-text-clause-right c =
    λ kinds meaning given table has. passed_up _ c.in_err-text.field-0.0
    (IsRightOf kinds meaning given table (rows_of (found_of c.args.matches.now))) c.from_residual.ensures.1
    (c.in_err-text.ensures.right kinds meaning given table has.0)

pub returns-in_err-bytes-clause-right : goal.returns-in_err-bytes-clause-right
returns-in_err-bytes-clause-right c =
    λ kinds meaning given table has. passed_up _ c.in_err-bytes.field-0.0 (IsRightOf kinds meaning given table (rows_of (found_of c.args.matches.now)))
    c.from_residual-in_err-bytes.ensures.1
    (c.in_err-bytes.ensures.right kinds meaning given table has (rows_of (found_of c.args.matches.now)) c.in_ok-text.ensures.some)
