-- the locks so far are appended
use Rattle.std.proofs.Common.{◌≡◌, ◌++◌, take, map}
use Rattle.ledger_model.specs.Values.{Value}
use Rattle.run_picture.specs.declared.entry_facts.Fact.TheVariants.{Holds}
use Rattle.run_picture.specs.Facts.{mark_of}
use Rattle.run_picture.proofs.locks_held.add_locks.Given as goal

abbrev pub invariant-loop-value : goal.invariant-loop-value
invariant-loop-value l = l.out.items ≡ l.fn.out.items ++ map (λ (v : Value). mark_of l.at l.height (Holds v)) (take l.value-index l.values)
