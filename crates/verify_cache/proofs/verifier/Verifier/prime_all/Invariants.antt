-- the parts that aren't left were taken in
use Rattle.std.specs.Iterator.Adapters.{zip_first, zip_second}
use Rattle.std.specs.Slice.Iter.{iter_rest}
use Rattle.verify_cache.proofs.Priming.{IsPriming}
use Rattle.verify_cache.proofs.verifier.Verifier.prime_all.Given as goal

abbrev pub invariant-loop-part : goal.invariant-loop-part
invariant-loop-part l =
    IsPriming l.fn.ring l.fn.parts l.initial.self (iter_rest (zip_first l.part-iterator)) (iter_rest (zip_second l.part-iterator)) l.self
