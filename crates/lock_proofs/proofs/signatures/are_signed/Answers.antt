use Rattle.std.proofs.Common.{ap, ◌∙◌}
use Rattle.std.specs.List.{list_all}
use Rattle.std.proofs.lemmas.List.Folds.{list_all-map}
use Rattle.signed_frames.specs.Lending.{lent_of, proof_of}
use Rattle.verify_cache.specs.Checks.{is_part_signed}
use Rattle.lock_proofs.proofs.signatures.are_signed.Goals as goal

pub returns-clause-answer : goal.returns-clause-answer
returns-clause-answer g c =
    let ring = g.C.CheckSignatures.ring c.args.checks.now in
    c.do_verify.ensures.answer ∙ ap (list_all (is_part_signed ring)) c.lent_reports.ensures
    ∙ list_all-map (is_part_signed ring) lent_of (proof_of c.args.frame.now.statement)
