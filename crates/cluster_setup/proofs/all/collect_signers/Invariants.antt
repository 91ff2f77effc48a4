-- the signers so far, and the results that are still to come
use Rattle.std.proofs.Common.{◌≡◌, ◌++◌, Ok, map}
use Rattle.std.specs.Vec.Iter.{into_iter_items}
use Rattle.cluster_setup.proofs.all.collect_signers.Given as goal

abbrev pub invariant-loop-signer : goal.invariant-loop-signer
invariant-loop-signer l = map Ok l.signers.items ++ into_iter_items l.signer-iterator ≡ l.fn.made.items
