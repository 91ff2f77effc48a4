use Rattle.std.proofs.Common.{◌≡◌, None, Some}
use Rattle.std.proofs.lemmas.Option.{same_Some}
use Rattle.command_line.proofs.ReceiptLemmas.{cut_once}
use Rattle.command_line.proofs.receipts.head_of.Goals as goal

pub returns-in_err-digits-clause-found : goal.returns-in_err-digits-clause-found
returns-in_err-digits-clause-found c = λ n rest small e.
    absurd (cut_once c.args.text.now rest n None c.in_err-digits.ensures.cases small e)

pub returns-in_err-number-clause-found : goal.returns-in_err-number-clause-found
returns-in_err-number-clause-found c = λ n rest small e.
    let cut = cut_once c.args.text.now rest n (Some (c.in_ok-digits.digits, c.in_ok-digits.rest)) c.in_ok-digits.ensures.cases small e in
    let bad : None ≡ Some n = c.in_err-number.ensures.found n small cut.0 in
    absurd cc

pub returns-clause-found : goal.returns-clause-found
returns-clause-found c = λ n rest small e.
    let cut = cut_once c.args.text.now rest n (Some (c.in_ok-digits.digits, c.in_ok-digits.rest)) c.in_ok-digits.ensures.cases small e in
    (same_Some c.in_ok-number.field-0 n (c.in_ok-number.ensures.found n small cut.0), cut.1)
