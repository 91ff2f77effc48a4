use Rattle.std.proofs.lemmas.Grind.{common_steps}
use Rattle.std.proofs.Common.{◌≡◌, ◌∙◌, ◌++◌, ◌-◌, length, take, drop, ap, subst, rules, arith}
use Rattle.std.specs.Prelude.{OnOk, codes}
use Rattle.std.specs.List.{flat_map}
use Rattle.plain_text.specs.Transactions.{bytes_text}
use Rattle.plain_text.specs.Transactions.{batch_text}
use Rattle.printed_lines.proofs.BatchLines.{batch_added}
use Rattle.printed_lines.proofs.text.Text.add_batch.Goals as goal

pub returns-in_ok-add_more-in-len1-up : goal.returns-in_ok-add_more-in-len1-up
returns-in_ok-add_more-in-len1-up c =
    let out = c.args.self.now in
    let v = c.transactions.result.now in
    let t = c.first-item.result in
    let opened : c.add-in-len1-up.new.self ≡ out ++ codes "[" = search rules in
    let first : c.add_bytes.new.self ≡ (out ++ codes "[") ++ bytes_text t = search (rules, opened) in
    let rest = flat_map (λ u. codes "," ++ bytes_text u) (take (length v - 1) (drop 1 v)) in
    let more : c.add_more.new.self ≡ ((out ++ codes "[") ++ bytes_text t) ++ rest =
    c.in_ok-add_more-in-len1-up.ensures ∙ ap (λ l. l ++ rest) first in
    let whole = batch_added out t v c.in-len1-up.len_at_least c.first-item.is
    ∙ ap (λ b. out ++ batch_text b) c.transactions.ensures.transactions in
    subst (λ l. OnOk c.add-in-len1-up-2.result (c.add-in-len1-up-2.new.self ≡ l)) (ap (λ l. l ++ codes "]") more ∙ whole)
    c.add-in-len1-up-2.ensures

pub returns-in-empty : goal.returns-in-empty
unfolding batch_text
returns-in-empty c = grind (arith, common_steps)
