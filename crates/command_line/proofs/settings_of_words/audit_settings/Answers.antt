use Rattle.std.proofs.Common.{refl}
use Rattle.command_line.specs.Options.{audit_options, SetsAudit, WantsMemory}
use Rattle.command_line.specs.Faults.{IsRightOf}
use Rattle.clap.specs.Words.{found_of, rows_of}
use Rattle.clap.proofs.TakesLemmas.{passed_up}
use Rattle.cluster_setup.specs.declared.audit_settings.AuditSettings.{AuditSettings}
use Rattle.command_line.proofs.Tables.{has_cluster}
use Rattle.command_line.specs.Faults.{IsUnfit}
use Rattle.command_line.proofs.UnfitLemmas.{plain_options, unfit_of}
use Rattle.command_line.proofs.settings_of_words.audit_settings.Goals as goal

pub returns-in_err-receipt-clause-none : goal.returns-in_err-receipt-clause-none
returns-in_err-receipt-clause-none g c =
    passed_up _ c.in_err-receipt.field-0.0
    (λ e. (s : AuditSettings) → SetsAudit (g.A.Opening.words.kinds) c.args.given (rows_of (found_of c.args.matches.now)) s → WantsMemory e)
    c.from_residual-in_err-receipt.ensures.1 (λ s i. c.in_err-receipt.ensures.none s.receipt i.receipt)

pub returns-in_err-cluster-clause-right : goal.returns-in_err-cluster-clause-right
returns-in_err-cluster-clause-right g c =
    λ meaning. passed_up _ c.in_err-cluster.field-0.0 (IsRightOf (g.A.Opening.words.kinds) meaning c.args.given.seed audit_options (rows_of (found_of c.args.matches.now)))
    c.from_residual.ensures.1
    (c.in_err-cluster.ensures.right meaning audit_options (has_cluster _ _ _ _ _) refl)

pub returns-in_err-receipt-clause-right : goal.returns-in_err-receipt-clause-right
returns-in_err-receipt-clause-right g c =
    λ meaning. passed_up _ c.in_err-receipt.field-0.0 (IsRightOf (g.A.Opening.words.kinds) meaning c.args.given.seed audit_options (rows_of (found_of c.args.matches.now)))
    c.from_residual-in_err-receipt.ensures.1 (c.in_err-receipt.ensures.right (g.A.Opening.words.kinds) meaning c.args.given.seed audit_options refl)

pub returns-in_err-cluster-clause-unfit : goal.returns-in_err-cluster-clause-unfit
returns-in_err-cluster-clause-unfit g c =
    passed_up _ c.in_err-cluster.field-0.0 (IsUnfit (g.A.Opening.words.kinds) c.args.given.cluster) c.from_residual.ensures.1 c.in_err-cluster.ensures.unfit

pub returns-in_err-receipt-clause-unfit : goal.returns-in_err-receipt-clause-unfit
returns-in_err-receipt-clause-unfit g c =
    passed_up _ c.in_err-receipt.field-0.0 (IsUnfit (g.A.Opening.words.kinds) c.args.given.cluster) c.from_residual-in_err-receipt.ensures.1
    (unfit_of (g.A.Opening.words.kinds) (g.A.Application.meaning) c.args.given.seed c.args.given.cluster plain_options _ _ (λ bad. absurd cc)
    (c.in_err-receipt.ensures.right (g.A.Opening.words.kinds) (g.A.Application.meaning) c.args.given.seed plain_options refl))
