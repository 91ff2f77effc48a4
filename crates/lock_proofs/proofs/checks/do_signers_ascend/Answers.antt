use Rattle.std.proofs.Common.{◌+◌, ◌<◌, ◌≤◌, inl, inr, refl, arith}
use Rattle.std.proofs.lemmas.Bool.{cases_lt}
use Rattle.lock_proofs.proofs.SignerMasks.{none_below, above_mask, under_mask, with_signer, ascends_on, ends_high, ends_low}
use Rattle.lock_proofs.proofs.checks.do_signers_ascend.Goals as goal
use Rattle.lock_proofs.proofs.checks.do_signers_ascend.Goals.{then-config-signer-via-then-config-signer}
use Rattle.lock_proofs.proofs.checks.do_signers_ascend.Goals.{then-config-signer-via-else-config-signer+then-mask-signer-ne0}

pub loop-signed-init : goal.loop-signed-init
loop-signed-init c = (0, (none_below, refl))

pub returns-then-config-signer : goal.returns-then-config-signer
returns-then-config-signer c =
    let inv = c.loop-signed.invariant in
    let s = c.signed-item.result in
    elim c.then-config-signer.branch [
      | then-config-signer-via-then-config-signer w ↦
          (let over : c.args.config.now.replicas ≤ s.report.signer = omega (arith, w.if-config-signer.true, c.number-signer.ensures) in
          ends_high inv.0 c.args.config.now.replicas c.loop-signed.signed-index c.args.reports.now s _ c.loop-signed-test.true
          c.signed-item.is
          inv.1.1 over)
      | then-config-signer-via-else-config-signer+then-mask-signer-ne0 w ↦
          elim (cases_lt c.number-signer.result inv.0) [
            | inl under ↦
                (let low : s.report.signer < inv.0 = omega (arith, under, c.number-signer.ensures) in
                ends_low inv.0 c.args.config.now.replicas c.loop-signed.signed-index c.args.reports.now s _ c.loop-signed-test.true
                c.signed-item.is inv.1.1 low)
            | inr from ↦ absurd (w.if-mask-signer-ne0.true (under_mask inv.0 c.loop-signed.mask c.number-signer.result inv.1.0 from))
          ]
    ]

pub loop-signed-preserved : goal.loop-signed-preserved
loop-signed-preserved c =
    let inv = c.loop-signed.invariant in
    let s = c.signed-item.result in
    let from : inv.0 ≤ c.number-signer.result =
    above_mask inv.0 c.loop-signed.mask c.number-signer.result inv.1.0 c.if-mask-signer-ne0.false in
    let low : inv.0 ≤ s.report.signer = omega (arith, from, c.number-signer.ensures) in
    let under : s.report.signer < c.args.config.now.replicas = omega (arith, c.if-config-signer.false, c.number-signer.ensures) in
    let small : s.report.signer < 16 = omega (arith, under, c.args.config.now.bounded) in (
      s.report.signer + 1,
      (
        with_signer inv.0 c.loop-signed.mask s.report.signer c.number-signer.result inv.1.0 low small c.number-signer.ensures,
        ascends_on inv.0 c.args.config.now.replicas c.loop-signed.signed-index c.args.reports.now s _ c.loop-signed-test.true
            c.signed-item.is
            inv.1.1 low under,
      ),
    )
