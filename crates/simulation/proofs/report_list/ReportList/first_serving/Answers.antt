use Rattle.std.proofs.Common.{◌≡◌, ◌+◌, ◌++◌, ◌∷◌, [], true, take, drop, refl, sym, ap, subst, ◌∙◌}
use Rattle.std.proofs.lemmas.Option.{slice_get_read}
use Rattle.ledger_model.proofs.Lists.{take-next}
use Rattle.simulation.specs.Indexes.{frames_of_report, is_at}
use Rattle.simulation.specs.Lies.{first_serving}
use Rattle.simulation.proofs.FirstServing.{among_none, found_here, none_here}
use Rattle.simulation.proofs.Indexing.{at_kept, at_left, at_whole}
use Rattle.simulation.proofs.report_list.ReportList.first_serving.Goals as goal
use Rattle.simulation.proofs.report_list.ReportList.first_serving.Goals.{then-is_at+in_ok-found+else-is_some+in-Some-1, else-is_at}
use Rattle.simulation.proofs.report_list.ReportList.first_serving.Goals.{then-is_at+in_ok-found+else-is_some+in-None-1}

pub loop-report-init : goal.loop-report-init
loop-report-init c = among_none c.args.lie.now c.args.source c.args.replica

pub returns-then-is_some-clause-found : goal.returns-then-is_some-clause-found
returns-then-is_some-clause-found c =
    let l = c.args.lie.now in
    let k = c.args.source in
    let r = c.args.replica in
    let items = c.args.self.now.reports.items in
    let i = c.loop-report.report-index in
    let item = c.report-item.result in
    let upto : take (i + 1) items ≡ take i items ++ item ∷ [] =
    subst (λ ys. take (i + 1) ys ≡ take i ys ++ item ∷ []) c.deref-report-items.ensures.value
    (take-next c.deref-report-items.result.now i item
    (slice_get_read c.deref-report-items.result.now _ i item refl c.loop-report-test.true c.report-item.is)) in
    let at : is_at l k r item ≡ true = sym c.is_at.ensures ∙ c.if-is_at.true in
    found_here l k r (frames_of_report l k r (take i items)) (item.frame ∷ []) (frames_of_report l k r (drop (i + 1) items)) (frames_of_report l k r items)
    c.in_ok-found.found (at_whole l k r items i item upto at) c.loop-report.invariant c.in_ok-found.ensures.found cc

pub loop-report-preserved : goal.loop-report-preserved
loop-report-preserved c =
    let l = c.args.lie.now in
    let k = c.args.source in
    let r = c.args.replica in
    let items = c.args.self.now.reports.items in
    let i = c.loop-report.report-index in
    let item = c.report-item.result in
    let upto : take (i + 1) items ≡ take i items ++ item ∷ [] =
    subst (λ ys. take (i + 1) ys ≡ take i ys ++ item ∷ []) c.deref-report-items.ensures.value
    (take-next c.deref-report-items.result.now i item
    (slice_get_read c.deref-report-items.result.now _ i item refl c.loop-report-test.true c.report-item.is)) in
    elim c.if-is_at.branch [
      | then-is_at+in_ok-found+else-is_some+in-Some-1 w ↦
          none_here l k r (frames_of_report l k r (take i items)) (item.frame ∷ []) (frames_of_report l k r (take (i + 1) items)) w.in_ok-found.found
          (ap (frames_of_report l k r) upto ∙ at_kept l k r (take i items) item (sym c.is_at.ensures ∙ w.if-is_at.true))
          c.loop-report.invariant w.in_ok-found.ensures.found cc
      | then-is_at+in_ok-found+else-is_some+in-None-1 w ↦
          none_here l k r (frames_of_report l k r (take i items)) (item.frame ∷ []) (frames_of_report l k r (take (i + 1) items)) w.in_ok-found.found
          (ap (frames_of_report l k r) upto ∙ at_kept l k r (take i items) item (sym c.is_at.ensures ∙ w.if-is_at.true))
          c.loop-report.invariant w.in_ok-found.ensures.found cc
      | else-is_at w ↦
          ap (first_serving l k r) (ap (frames_of_report l k r) upto ∙ at_left l k r (take i items) item (sym c.is_at.ensures ∙ w.if-is_at.false))
          ∙ c.loop-report.invariant
    ]
