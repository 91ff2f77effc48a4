-- whatever stands for the rest completes what was read, and only a text whose rest stands for something does for anything
use Rattle.std.proofs.Common.{ℕ, List, ◌++◌, length}
use Rattle.plain_text.specs.Transactions.{ReadsTo, StandsFor}
use Rattle.plain_text.proofs.transactions.written.Given as goal

abbrev pub invariant-loop-rest : goal.invariant-loop-rest
invariant-loop-rest l = ((more : List ℕ) → StandsFor l.rest more → StandsFor l.text (l.bytes.items ++ more))
    × (((bytes : List ℕ) → StandsFor l.text bytes → (more : List ℕ) × StandsFor l.rest more) × ReadsTo l.text l.bytes.items l.rest)

abbrev pub decreases-loop-rest : goal.decreases-loop-rest
decreases-loop-rest l = length l.rest
