use Rattle.std.proofs.Common.{rules, ◌-◌, length, ap, subst, sym, arith}
use Rattle.std.specs.List.{flat_map, AllByRecursion}
use Rattle.ledger_model.specs.Spelling.{IsSignedReport, signed_bytes, signature_bytes}
use Rattle.ledger_model.specs.declared.statement.Statement.TheVariants as statement
use Rattle.signed_frames.specs.Parts.{signed_by_last}
use Rattle.signed_frames.proofs.LockParts.{reports_fit, reports_at}
use Rattle.signed_frames.proofs.lending.reports_in_lock.Goals as goal

pub overflow_sub-end-2 : goal.overflow_sub-end-2
overflow_sub-end-2 c = omega (arith, c.len.ensures.value, reports_fit c.args.frame.now c.args.lock.now c.args.signature_len c.requires)

pub overflow_sub-result : goal.overflow_sub-result
overflow_sub-result c =
    let all = ap (λ r. length (flat_map signed_bytes r)) c.as_slice-reports.ensures in
    omega (
      arith,
      c.len.ensures.value,
      c.reports_len.ensures.len,
      all,
      reports_fit c.args.frame.now c.args.lock.now c.args.signature_len c.requires,
    )

pub invariant_of-result : goal.invariant_of-result
invariant_of-result c =
    let l = c.args.lock.now in
    record {
      each = (
        l.version,
        subst (AllByRecursion (IsSignedReport l.version)) (sym c.as_slice-reports.ensures) c.requires.spelled.0.statement.each,
      );
      spelled = (
        signature_bytes (signed_by_last c.args.frame.now (statement.Lock l) c.args.signature_len).signature,
        rw (c.reports_len.ensures.len, c.as_slice-reports.ensures, c.len.ensures.value)
            (reports_at c.args.frame.now l c.args.signature_len c.requires),
      );
      short = search rules;
    }
