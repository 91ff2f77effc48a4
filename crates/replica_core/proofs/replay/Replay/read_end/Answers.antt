use Rattle.std.proofs.Common.{◌≡◌, ◌+◌, List, false, length, map, ap, sym, subst, ◌∙◌}
use Rattle.std.specs.List.{AllByRecursion}
use Rattle.std.proofs.lemmas.List.{length-map}
use Rattle.ledger_model.specs.Spelling.{IsFrame}
use Rattle.instance.specs.Instances.{InstanceView}
use Rattle.instance.specs.Plans.{opened_effects, IsOwnMade}
use Rattle.height_row.specs.declared.round_closing.RoundClosing.{RoundClosing}
use Rattle.replica_core.specs.Replays.{ReplayView}
use Rattle.replica_core.specs.RoundEnds.{AreMade}
use Rattle.replica_core.specs.ShownEnds.{statements_shown, made_each, AreSpelled}
use Rattle.replica_core.proofs.Endings.{all_images}
use Rattle.replica_core.proofs.ShownRounds.{mades, shown_count, closing_count, are_spelled, shown_each, none_each}
use Rattle.replica_core.proofs.replay.Replay.read_end.Goals as goal

-- a frame spells no statement
pub returns-in_default-clause-shown : goal.returns-in_default-clause-shown
returns-in_default-clause-shown g c = λ entries matches keeps.
    c.in_ok-frames.ensures.none c.in_default.is
    (subst AreSpelled (sym c.as_slice.ensures) (are_spelled (g.A.Application.meaning) c.args.self.now c.args.end.now c.requires.limits
    c.requires.clock entries keeps))

pub make_shown-requires : goal.make_shown-requires
make_shown-requires g c =
    let held : ReplayView = c.args.self.now in
    record {
      count = ap length c.requires.endings ∙ length-map held.rows (λ row. opened_effects row (held.clock + 1))
          ∙ ap length (sym (c.instances.ensures.rows ∙ ap (λ (x : ReplayView). x.rows) c.self.view_is));
    }

pub may_make_all-requires-clause-count : goal.may_make_all-requires-clause-count
may_make_all-requires-clause-count g c =
    let held : ReplayView = c.args.self.now in
    let ends = c.in_ok-closings.ensures.endings ∙ c.requires.endings in
    ap length c.deref.ensures.value ∙ closing_count (held.clock + 1) held.rows c.in_ok-closings.closings.items ends

-- what the frames show may be made
pub returns-then-may_make_all-clause-shown : goal.returns-then-may_make_all-clause-shown
returns-then-may_make_all-clause-shown g c =
    let held : ReplayView = c.args.self.now in
    let xs : List RoundClosing = c.in_ok-closings.closings.items in
    let ends = c.in_ok-closings.ensures.endings ∙ c.requires.endings in
    let rows = c.instances.ensures.rows ∙ ap (λ (x : ReplayView). x.rows) c.self.view_is in
    let shown : statements_shown c.args.end.now.frames ≡ c.in-Some.frames.items =
    ap statements_shown (sym c.as_slice.ensures) ∙ (rw c.in-Some.is at c.in_ok-frames.ensures.shown) in
    let frames : AllByRecursion IsFrame (statements_shown c.args.end.now.frames) =
    subst (AllByRecursion IsFrame) (sym shown) (rw c.in-Some.is at c.in_ok-frames.ensures.frames) in
    let is = c.in_ok-closings.ensures.made
    ∙ ap (λ (rs : List InstanceView). made_each (map (λ row. row.height) rs) c.in-Some.frames.items) rows
    ∙ ap (made_each (map (λ (row : InstanceView). row.height) held.rows)) (sym shown) in
    shown_each (g.A.Application.meaning) held c.args.end.now c.requires.limits c.requires.clock c.requires.loud c.requires.none_on frames
    (mades xs) is
    (shown_count (held.clock + 1) held.rows xs ends)
    (all_images (IsOwnMade held.config held.id) (λ (x : RoundClosing). x.made) xs
    (subst (AllByRecursion (λ (x : RoundClosing). IsOwnMade held.config held.id x.made)) c.deref.ensures.value
    (c.may_make_all.ensures.own c.if-may_make_all.true)))
    (λ entries matches. subst (λ (ys : List RoundClosing). AreMade held.ring false (held.clock + 1) held.rows (mades ys))
    c.deref.ensures.value (c.may_make_all.ensures.may entries matches c.if-may_make_all.true))

pub returns-then-may_make_all-clause-endings : goal.returns-then-may_make_all-clause-endings
returns-then-may_make_all-clause-endings g c = c.in_ok-closings.ensures.endings ∙ c.requires.endings

-- it may not
pub returns-else-may_make_all-clause-shown : goal.returns-else-may_make_all-clause-shown
returns-else-may_make_all-clause-shown g c =
    let held : ReplayView = c.args.self.now in
    let xs : List RoundClosing = c.in_ok-closings.closings.items in
    let rows = c.instances.ensures.rows ∙ ap (λ (x : ReplayView). x.rows) c.self.view_is in
    let shown : statements_shown c.args.end.now.frames ≡ c.in-Some.frames.items =
    ap statements_shown (sym c.as_slice.ensures) ∙ (rw c.in-Some.is at c.in_ok-frames.ensures.shown) in
    let frames : AllByRecursion IsFrame (statements_shown c.args.end.now.frames) =
    subst (AllByRecursion IsFrame) (sym shown) (rw c.in-Some.is at c.in_ok-frames.ensures.frames) in
    let is = c.in_ok-closings.ensures.made
    ∙ ap (λ (rs : List InstanceView). made_each (map (λ row. row.height) rs) c.in-Some.frames.items) rows
    ∙ ap (made_each (map (λ (row : InstanceView). row.height) held.rows)) (sym shown) in
    none_each (g.A.Application.meaning) held c.args.end.now c.requires.limits c.requires.clock c.requires.loud c.requires.none_on frames
    (mades xs) is
    (λ entries matches made.
    let may = c.may_make_all.ensures.only entries matches
    (subst (λ (ys : List RoundClosing). AreMade held.ring false (held.clock + 1) held.rows (mades ys)) (sym c.deref.ensures.value)
    made) in
    absurd (cc (sym c.if-may_make_all.false ∙ may)))
