use Rattle.std.proofs.Common.{take}
use Rattle.std.specs.List.{All}
use Rattle.clap.specs.Words.{found_of, rows_of}
use Rattle.command_line.specs.Options.{IsNamed}
use Rattle.command_line.proofs.known_clusters.contained.Given as goal

abbrev pub invariant-loop-option : goal.invariant-loop-option
invariant-loop-option l = All (λ option. IsNamed (rows_of (found_of l.matches)) option.now → ⊥) (take l.option-index l.options)
