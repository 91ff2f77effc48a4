-- the codes so far are added
use Rattle.std.proofs.Common.{◌≡◌, ◌++◌, take}
use Rattle.std.specs.Prelude.{codes, decimal}
use Rattle.std.specs.List.{flat_map}
use Rattle.printed_lines.proofs.lines.add_more_codes.Given as goal

abbrev pub invariant-loop-code : goal.invariant-loop-code
invariant-loop-code l = l.out ≡ l.fn.out ++ flat_map (λ code. codes "," ++ decimal code) (take l.code-index l.more)
