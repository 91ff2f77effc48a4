use Rattle.std.proofs.Common.{◌≡◌}
use Rattle.std.specs.Map.{lookup}
use Rattle.verify_cache.specs.Same.{same, signed_of}
use Rattle.verify_cache.proofs.verifier.find.Given as goal

-- the answer is that of what is left to look at
abbrev pub invariant-loop-signed : goal.invariant-loop-signed
invariant-loop-signed l =
    (goal.iterator-loop-signed).can_next l.signed-iterator
    × (goal.iterator-loop-signed).is_finite l.signed-iterator
    × (lookup (same (signed_of l.fn.signer l.fn.message l.fn.signature)) l.signed-iterator
    ≡ lookup (same (signed_of l.fn.signer l.fn.message l.fn.signature)) l.fn.known.entries)
