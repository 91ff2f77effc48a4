use Rattle.std.proofs.Common.{◌+◌, List, sym, ◌∙◌}
use Rattle.instance.specs.declared.round_statement.RoundStatement.TheVariants as made
use Rattle.height_row.specs.declared.round_closing.RoundClosing.{RoundClosing}
use Rattle.replica_core.specs.Replays.{ReplayView}
use Rattle.replica_core.proofs.ShownRounds.{mades, endings_release, all_of_it, shown_mute, shown_release}
use Rattle.replica_core.proofs.replay.Replay.shown_end.Goals as goal

pub read_end-requires-clause-none_on : goal.read_end-requires-clause-none_on
read_end-requires-clause-none_on g c =
    let held : ReplayView = c.args.self.now in
    sym (endings_release (held.clock + 1) held.rows c.deref.result.now c.send_locks.result c.send_locks.ensures
    (c.deref.ensures.value ∙ c.requires.endings)) ∙ c.if-send_locks.false

-- a mute replica
pub returns-in_ok-make_nothing-clause-shown : goal.returns-in_ok-make_nothing-clause-shown
returns-in_ok-make_nothing-clause-shown g c =
    let held : ReplayView = c.args.self.now in
    let xs : List RoundClosing = c.in_ok-make_nothing.field-0.items in
    let ends = c.in_ok-make_nothing.ensures.endings ∙ c.requires.endings in
    shown_mute (g.A.Application.meaning) held c.args.end.now c.requires.limits c.requires.clock (mades xs) c.if-end.true
    (all_of_it made.Mute (held.clock + 1) held.rows xs ends c.in_ok-make_nothing.ensures.nothing)

pub returns-in_ok-make_nothing-clause-endings : goal.returns-in_ok-make_nothing-clause-endings
returns-in_ok-make_nothing-clause-endings g c = c.in_ok-make_nothing.ensures.endings ∙ c.requires.endings

-- one that sends locks on
pub returns-in_ok-make_nothing-2-clause-shown : goal.returns-in_ok-make_nothing-2-clause-shown
returns-in_ok-make_nothing-2-clause-shown g c =
    let held : ReplayView = c.args.self.now in
    let xs : List RoundClosing = c.in_ok-make_nothing-2.field-0.items in
    let ends = c.in_ok-make_nothing-2.ensures.endings ∙ c.requires.endings in
    let some = sym (endings_release (held.clock + 1) held.rows c.deref.result.now c.send_locks.result c.send_locks.ensures
    (c.deref.ensures.value ∙ c.requires.endings)) ∙ c.if-send_locks.true in
    shown_release (g.A.Application.meaning) held c.args.end.now c.requires.limits c.requires.clock c.if-end.false (mades xs) some
    (all_of_it made.Unsent (held.clock + 1) held.rows xs ends c.in_ok-make_nothing-2.ensures.nothing)

pub returns-in_ok-make_nothing-2-clause-endings : goal.returns-in_ok-make_nothing-2-clause-endings
returns-in_ok-make_nothing-2-clause-endings g c = c.in_ok-make_nothing-2.ensures.endings ∙ c.requires.endings

-- an end whose frames show more
pub returns-else-send_locks-clause-shown : goal.returns-else-send_locks-clause-shown
returns-else-send_locks-clause-shown g c = c.read_end.ensures.shown

pub returns-else-send_locks-clause-endings : goal.returns-else-send_locks-clause-endings
returns-else-send_locks-clause-endings g c = c.read_end.ensures.endings
