use Rattle.std.proofs.Common.{◌+◌, ◌∙◌, ◌++◌, take, sym, ap, append_assoc}
use Rattle.printed_lines.specs.AuditLines.{block_line, block_lines}
use Rattle.printed_lines.proofs.BlockLines.{next_block}
use Rattle.printed_lines.proofs.finding_lines.add_blocks.Goals as goal

pub loop-index-preserved : goal.loop-index-preserved
loop-index-preserved c =
    let i = c.loop-index.index in
    let vs = c.args.blocks.now in
    let v = c.index-blocks-index.result in
    c.in_ok-add_block.ensures ∙ ap (λ l. l ++ block_line (i + 1) v) c.loop-index.invariant
    ∙ append_assoc c.args.out.now (block_lines 1 (take i vs)) (block_line (i + 1) v)
    ∙ ap (λ l. c.args.out.now ++ l) (sym (next_block vs i v c.loop-index-test.true c.index-blocks-index.is))
