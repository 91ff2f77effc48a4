-- the rest decides together with the least so far
use Rattle.std.proofs.Common.{◌≡◌, ◌∷◌, map}
use Rattle.std.specs.Prelude.{None}
use Rattle.signed_frames.specs.Lending.{lent_of, own_part, proof_of}
use Rattle.history_audit.specs.Searches.{least_unsent}
use Rattle.history_audit.proofs.unsent.least_in_frame.Given as goal

abbrev pub invariant-loop-part : goal.invariant-loop-part
invariant-loop-part l =
    least_unsent l.histories l.least l.part-iterator
    ≡ least_unsent l.histories None (own_part l.frame ∷ map lent_of (proof_of l.frame.statement))
