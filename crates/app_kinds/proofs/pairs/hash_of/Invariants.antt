use Rattle.app_kinds.specs.Sorted.{pair_bytes, FitTransactions}
use Rattle.app_kinds.proofs.Entries.{Feeds}
use Rattle.app_kinds.proofs.pairs.hash_of.Given as goal

abbrev pub invariant-loop-key : goal.invariant-loop-key
invariant-loop-key l = FitTransactions (pair_bytes l.key-iterator) × Feeds l.hasher (pair_bytes l.key-iterator) (pair_bytes l.values.entries)
