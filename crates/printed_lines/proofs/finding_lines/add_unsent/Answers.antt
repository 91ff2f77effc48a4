use Rattle.std.proofs.Common.{◌≡◌, ◌∙◌, ◌++◌, ap, sym, subst}
use Rattle.std.specs.Prelude.{OnOk, codes, decimal}
use Rattle.history_audit.specs.declared.fault.AuditFault.TheVariants.{Unsent}
use Rattle.printed_lines.specs.AuditLines.{fault_text}
use Rattle.printed_lines.proofs.FaultLines.{headed, three_words}
use Rattle.printed_lines.proofs.finding_lines.add_unsent.Goals as goal

pub returns : goal.returns
returns c =
    let n = c.number-number.result in
    let reader = c.number-reader.result in
    let i = c.args.index in
    let signer = c.number-signer.result in
    let line : c.deref.result.now ≡ fault_text (Unsent c.args.reader i c.args.signer) =
    c.deref.ensures ∙ c.in_ok-line.ensures.ok
    ∙ sym (headed (codes "fault ") (decimal n) (codes " Unsent ")
    (decimal reader ++ (codes " " ++ (decimal i ++ (codes " " ++ (decimal signer ++ codes "\n"))))))
    ∙ sym (three_words (codes "fault " ++ decimal n ++ codes " Unsent ") (decimal reader) (decimal i) (decimal signer) (codes "\n"))
    ∙ ap
    (λ m. codes "fault " ++ decimal m ++ codes " Unsent " ++ decimal reader ++ codes " " ++ decimal i ++ codes " " ++ decimal signer
    ++ codes "\n")
    c.number-number.ensures
    ∙ ap (λ r. fault_text (Unsent r i signer)) c.number-reader.ensures
    ∙ ap (λ s. fault_text (Unsent c.args.reader i s)) c.number-signer.ensures in
    subst (λ t. OnOk c.add.result (c.add.new.self ≡ c.args.out.now ++ t)) line c.add.ensures
