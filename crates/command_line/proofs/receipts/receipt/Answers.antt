use Rattle.std.proofs.Common.{sym}
use Rattle.std.specs.Prelude.{Option}
use Rattle.clap.specs.Words.{found_of, rows_of}
use Rattle.clap.proofs.TakesLemmas.{passed_up}
use Rattle.cluster_setup.specs.declared.audit_settings.Receipt.{Receipt}
use Rattle.command_line.specs.Faults.{IsRightOf}
use Rattle.command_line.specs.Options.{SetsReceipt, WantsMemory}
use Rattle.command_line.proofs.ReceiptLemmas.{receipt_right, set_spelled}
use Rattle.command_line.proofs.receipts.receipt.Goals as goal

pub returns-in_err-spelled-in-Some-clause-none : goal.returns-in_err-spelled-in-Some-clause-none
returns-in_err-spelled-in-Some-clause-none c =
    passed_up _ c.in_err-spelled-in-Some.field-0.0
    (λ e. (r : Option Receipt) → SetsReceipt (rows_of (found_of c.args.matches.now)) r → WantsMemory e)
    c.from_residual.ensures.1 (λ r sets.
    let set = set_spelled (rows_of (found_of c.args.matches.now)) c.in-Some.text.now r (sym c.in-Some.ensures) sets in
    c.in_err-spelled-in-Some.ensures.none set.0 set.1)

pub returns-in_err-spelled-in-Some-clause-right : goal.returns-in_err-spelled-in-Some-clause-right
returns-in_err-spelled-in-Some-clause-right c = λ kinds meaning given table has.
    passed_up _ c.in_err-spelled-in-Some.field-0.0 (IsRightOf kinds meaning given table (rows_of (found_of c.args.matches.now)))
    c.from_residual.ensures.1
    (receipt_right kinds meaning given table (rows_of (found_of c.args.matches.now)) c.in-Some.text c.in_err-spelled-in-Some.field-0.0 has
    (sym c.in-Some.ensures) c.in_err-spelled-in-Some.ensures.none c.in_err-spelled-in-Some.ensures.told)
