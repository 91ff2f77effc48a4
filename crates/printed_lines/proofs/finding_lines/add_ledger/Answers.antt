use Rattle.std.proofs.Common.{◌≡◌, ◌∙◌, ◌++◌, ap, subst, append_assoc}
use Rattle.std.specs.Prelude.{OnOk}
use Rattle.printed_lines.specs.AuditLines.{block_lines, ledger_text}
use Rattle.printed_lines.proofs.finding_lines.add_ledger.Goals as goal

pub returns : goal.returns
unfolding ledger_text
returns c =
    let out = c.args.out.now in
    let blocks = c.blocks-blocks.result.now in
    let head = c.deref.ensures ∙ c.in_ok-head.ensures.ok in
    let added = c.in_ok-add.ensures ∙ ap (λ l. out ++ l) head in
    subst (λ t. OnOk c.add_blocks.result (c.add_blocks.new.out ≡ t))
    (ap (λ l. l ++ block_lines 1 blocks) added ∙ append_assoc out _ (block_lines 1 blocks)
    ∙ ap (λ v. out ++ ledger_text v) c.blocks-blocks.ensures)
    c.add_blocks.ensures
