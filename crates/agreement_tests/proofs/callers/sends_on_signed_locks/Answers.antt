use Rattle.std.proofs.Common.{◌≡◌, Some, sym, subst}
use Rattle.std.specs.Prelude.{slice_get}
use Rattle.agreement_tests.proofs.SentOn.{first_reads}
use Rattle.agreement_tests.proofs.callers.sends_on_signed_locks.Goals as goal

pub is_signed_frame-requires : goal.is_signed_frame-requires
is_signed_frame-requires c =
    let log = c.requires.matched in
    let at = subst (λ xs. slice_get xs 0 ≡ Some c.in-Some.bytes.now) c.sends_on.ensures (sym c.in-Some.ensures.value) in
    record {
      signed = first_reads c.args.ring.now c.args.instance.now.height _ c.in-Some.bytes.now
          (c.in_ok-ending.ensures.readable c.args.ring.now log.0 log.1) at;
    }
