use Rattle.std.proofs.Common.{rules, sym, ap, ◌∙◌, arith}
use Rattle.std.proofs.lemmas.Grind.{common_steps}
use Rattle.std.proofs.lemmas.Result.{IfOk-weaker}
use Rattle.ledger_model.specs.Worlds.{frames_sent}
use Rattle.simulation.specs.Indexes.{IsIndexOf, report_frames}
use Rattle.simulation.specs.Playing.{serving, simulation_of}
use Rattle.simulation.proofs.Indexing.{finds_sent, finds_signed}
use Rattle.simulation.proofs.report_index.serving.Goals as goal

pub returns-in_ok-follow_history-in-Some-clause-found : goal.returns-in_ok-follow_history-in-Some-clause-found
returns-in_ok-follow_history-in-Some-clause-found g c =
    IfOk-weaker c.first_serving.result _ _
    (λ found is.
    is ∙ finds_sent c.args.world.now c.args.lies.now c.args.lie.now c.args.source c.new-id.result c.follow_history.new.self.reports.items
    (sym c.in-Some.ensures.correct)
    (c.in_ok-follow_history-in-Some.ensures.whole ∙ ap (λ es. report_frames (frames_sent es)) (sym c.in-Some.ensures.entries))
    ∙ ap (serving (simulation_of c.args.world.now c.args.lies.now) c.args.lie.now c.args.source) c.new-id.ensures)
    c.first_serving.ensures.found

pub returns-in_ok-follow_frames-in-None-clause-found : goal.returns-in_ok-follow_frames-in-None-clause-found
returns-in_ok-follow_frames-in-None-clause-found g c =
    IfOk-weaker c.first_serving-in-None.result _ _
    (λ found is.
    is ∙ finds_signed c.args.world.now c.args.lies.now c.args.lie.now c.args.source c.new-id.result c.follow_frames.new.self.reports.items
    (sym c.in-None.ensures.correct) c.in_ok-follow_frames-in-None.ensures.whole
    ∙ ap (serving (simulation_of c.args.world.now c.args.lies.now) c.args.lie.now c.args.source) c.new-id.ensures)
    c.first_serving-in-None.ensures.found

pub returns-in_err-make_list-clause-index : goal.returns-in_err-make_list-clause-index
returns-in_err-make_list-clause-index g c = c.in_err-make_list.ensures.index c.args.world.now c.args.lies.now c.requires.index

pub follow_history-requires : goal.follow_history-requires
follow_history-requires g c =
    let is : IsIndexOf c.make_list.new.index c.args.world.now c.args.lies.now =
    c.in_ok-make_list.ensures.index c.args.world.now c.args.lies.now c.requires.index in
    search rules

pub returns-in_err-follow_history-in-Some-clause-index : goal.returns-in_err-follow_history-in-Some-clause-index
returns-in_err-follow_history-in-Some-clause-index g c =
    let is : IsIndexOf c.make_list.new.index c.args.world.now c.args.lies.now =
    c.in_ok-make_list.ensures.index c.args.world.now c.args.lies.now c.requires.index in
    grind (arith, common_steps)

pub follow_frames-requires : goal.follow_frames-requires
follow_frames-requires g c = (c.in_ok-make_list.ensures.index c.args.world.now c.args.lies.now c.requires.index).signed

pub returns-in_err-follow_frames-in-None-clause-index : goal.returns-in_err-follow_frames-in-None-clause-index
returns-in_err-follow_frames-in-None-clause-index g c =
    let is : IsIndexOf c.make_list.new.index c.args.world.now c.args.lies.now =
    c.in_ok-make_list.ensures.index c.args.world.now c.args.lies.now c.requires.index in
    record { sent = is.sent; signed = c.in_err-follow_frames-in-None.ensures.covers }

pub returns-in_ok-follow_history-in-Some-clause-index : goal.returns-in_ok-follow_history-in-Some-clause-index
returns-in_ok-follow_history-in-Some-clause-index g c =
    let is : IsIndexOf c.make_list.new.index c.args.world.now c.args.lies.now =
    c.in_ok-make_list.ensures.index c.args.world.now c.args.lies.now c.requires.index in
    grind (arith, common_steps)

pub returns-in_ok-follow_frames-in-None-clause-index : goal.returns-in_ok-follow_frames-in-None-clause-index
returns-in_ok-follow_frames-in-None-clause-index g c =
    let is : IsIndexOf c.make_list.new.index c.args.world.now c.args.lies.now =
    c.in_ok-make_list.ensures.index c.args.world.now c.args.lies.now c.requires.index in
    record { sent = is.sent; signed = c.in_ok-follow_frames-in-None.ensures.covers }
