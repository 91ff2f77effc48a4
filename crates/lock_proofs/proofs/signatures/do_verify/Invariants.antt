-- the reports that are left tell of all, under the same keys
use Rattle.std.proofs.Common.{◌≡◌}
use Rattle.std.specs.List.{list_all}
use Rattle.verify_cache.specs.Checks.{is_part_signed}
use Rattle.lock_proofs.proofs.signatures.do_verify.Given as goal

abbrev pub invariant-loop-part : goal.invariant-loop-part
invariant-loop-part g l =
    (list_all (is_part_signed (g.C.CheckSignatures.ring l.initial.checks)) l.part-iterator
    ≡ list_all (is_part_signed (g.C.CheckSignatures.ring l.initial.checks)) l.fn.reports)
    × (g.C.CheckSignatures.ring l.checks ≡ g.C.CheckSignatures.ring l.initial.checks)
