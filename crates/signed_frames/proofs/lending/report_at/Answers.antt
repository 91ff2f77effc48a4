use Rattle.std.proofs.Common.{◌+◌, ◌≤◌, ◌≡◌, ℕ, List, ◌++◌, length, drop, arith, ap, refl}
use Rattle.std.proofs.lemmas.List.{length-append}
use Rattle.std.specs.Int.{w16, to_be_bytes}
use Rattle.ledger_model.specs.declared.statement.SignedReport.{SignedReport}
use Rattle.ledger_model.specs.Spelling.{report_bytes, signature_bytes, statement_bytes}
use Rattle.signed_frames.proofs.LockParts.{signed_cut, signed_within, same_part}
use Rattle.signed_frames.proofs.lending.report_at.Goals as goal

-- the report and its signature end within the frame
within : (frame : List ℕ) (at : ℕ) (s : SignedReport)
    → (rest : List ℕ) × (drop at frame ≡ (report_bytes s.report ++ signature_bytes s.signature) ++ rest)
    → at + length (report_bytes s.report) + 2 + length s.signature ≤ length frame
within frame at s front =
    signed_within frame (report_bytes s.report) (to_be_bytes w16 (length s.signature)) s.signature front.0 at front.1 refl

pub overflow_add-end : goal.overflow_add-end
overflow_add-end c =
    omega (arith, c.report_len.ensures.len, within c.args.frame.now c.args.at c.args.signed.now c.requires.front, c.requires.short)

pub overflow_add-signature_start : goal.overflow_add-signature_start
overflow_add-signature_start c =
    omega (arith, c.report_len.ensures.len, within c.args.frame.now c.args.at c.args.signed.now c.requires.front, c.requires.short)

pub overflow_add-signature_end : goal.overflow_add-signature_end
overflow_add-signature_end c = omega (
  arith,
  c.report_len.ensures.len,
  ap length c.as_bytes.ensures,
  within c.args.frame.now c.args.at c.args.signed.now c.requires.front,
  c.requires.short,
)

pub invariant_of-part : goal.invariant_of-part
invariant_of-part c = omega (
  arith,
  c.report_len.ensures.len,
  ap length c.as_bytes.ensures,
  within c.args.frame.now c.args.at c.args.signed.now c.requires.front,
)

pub returns-clause-part : goal.returns-clause-part
unfolding statement_bytes
returns-clause-part c =
    let s = c.args.signed.now in
    let cuts = signed_cut c.args.frame.now (report_bytes s.report)
    (to_be_bytes w16 (length s.signature)) s.signature c.requires.front.0 c.args.at
    c.requires.front.1 refl in
    rw (c.report_len.ensures.len, c.as_bytes.ensures) (same_part s.report.signer _ _ _ _ cuts.0 cuts.1)

pub returns-clause-behind : goal.returns-clause-behind
returns-clause-behind c =
    let s = c.args.signed.now in
    omega (
      arith,
      c.report_len.ensures.len,
      ap length c.as_bytes.ensures,
      length-append (report_bytes s.report) (signature_bytes s.signature),
    )
