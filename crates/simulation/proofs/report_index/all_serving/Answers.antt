use Rattle.std.proofs.Common.{◌≡◌, [], ◌∷◌, ap, sym, subst, ◌∙◌}
use Rattle.std.specs.Prelude.{Some, None}
use Rattle.std.specs.List.{AllByRecursion}
use Rattle.ledger_model.specs.Spelling.{IsSignedReport}
use Rattle.simulation.specs.Playing.{serving, simulation_of}
use Rattle.simulation.proofs.Ranges.{found_kept, found_left}
use Rattle.simulation.proofs.report_index.all_serving.Goals.{in-Some+in_ok-push, in_default}
use Rattle.simulation.proofs.report_index.all_serving.Goals as goal
use Rattle.ledger_model.proofs.Lists.{each_append}

pub loop-replica-preserved : goal.loop-replica-preserved
loop-replica-preserved g c =
    let (found, spelled, index, made) = c.loop-replica.invariant in
    let serves = serving (simulation_of c.args.world.now c.args.lies.now) c.args.lie.now c.args.source in
    let here = sym c.in_ok-report.ensures.found in
    elim c.match-branch-2.branch [
      | in-Some+in_ok-push w ↦
          let more = ap (λ v. v.items) w.reports-is ∙ w.in_ok-push.ensures.items in
          let at : serves c.loop-replica.replica ≡ Some w.in-Some.report = here ∙ w.in-Some.is in (
            more ∙ found_kept serves c.loop-replica.replica c.loop-replica.reports.items w.in-Some.report found at,
            subst (AllByRecursion (IsSignedReport c.args.lie.now.version)) (sym more)
                (each_append (IsSignedReport c.args.lie.now.version) _ (w.in-Some.report ∷ []) spelled
                (rw w.in-Some.is at c.in_ok-report.ensures.spelled, tt)),
            c.in_ok-report.ensures.index,
            c.in_ok-report.ensures.made,
          )
      | in_default w ↦
          let same = ap (λ v. v.items) w.reports-is in
          let at : serves c.loop-replica.replica ≡ None = here ∙ w.in_default.is in (
            same ∙ found_left serves c.loop-replica.replica c.loop-replica.reports.items found at,
            subst (AllByRecursion (IsSignedReport c.args.lie.now.version)) (sym same) spelled,
            c.in_ok-report.ensures.index,
            c.in_ok-report.ensures.made,
          )
    ]
