-- the lines of the blocks so far are added
use Rattle.std.proofs.Common.{◌≡◌, ◌++◌, take}
use Rattle.printed_lines.specs.AuditLines.{block_lines}
use Rattle.printed_lines.proofs.finding_lines.add_blocks.Given as goal

abbrev pub invariant-loop-index : goal.invariant-loop-index
invariant-loop-index l = l.out ≡ l.fn.out ++ block_lines 1 (take l.index l.blocks)
