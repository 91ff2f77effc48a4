use Rattle.std.proofs.Common.{◌≡◌, ◌∙◌, ◌++◌, ap, sym, subst}
use Rattle.std.specs.Prelude.{OnOk, codes, decimal}
use Rattle.history_audit.specs.declared.fault.AuditFault.TheVariants.{NotReplay}
use Rattle.printed_lines.specs.AuditLines.{fault_text}
use Rattle.printed_lines.proofs.FaultLines.{headed, two_words}
use Rattle.printed_lines.proofs.finding_lines.add_not_replay.Goals as goal

pub returns : goal.returns
returns c =
    let n = c.number-number.result in
    let r = c.number-replica.result in
    let i = c.args.index in
    let line : c.deref.result.now ≡ fault_text (NotReplay c.args.replica i) =
    c.deref.ensures ∙ c.in_ok-line.ensures.ok
    ∙ sym (headed (codes "fault ") (decimal n) (codes " NotReplay ") (decimal r ++ (codes " " ++ (decimal i ++ codes "\n"))))
    ∙ sym (two_words (codes "fault " ++ decimal n ++ codes " NotReplay ") (decimal r) (decimal i) (codes "\n"))
    ∙ ap (λ m. codes "fault " ++ decimal m ++ codes " NotReplay " ++ decimal r ++ codes " " ++ decimal i
    ++ codes "\n") c.number-number.ensures
    ∙ ap (λ x. fault_text (NotReplay x i)) c.number-replica.ensures in
    subst (λ t. OnOk c.add.result (c.add.new.self ≡ c.args.out.now ++ t)) line c.add.ensures
