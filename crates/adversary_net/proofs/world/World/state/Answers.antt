use Rattle.std.proofs.Common.{◌≡◌, sym, ap, subst, ◌∙◌}
use Rattle.std.specs.Prelude.{Some, None, slice_get, option_and_then}
use Rattle.locked_replica.specs.States.{StateView}
use Rattle.adversary_net.specs.declared.party.Party.TheVariants as party
use Rattle.adversary_net.specs.WorldViews.{IsMemberAt, state_in}
use Rattle.adversary_net.proofs.Asking.{its_entries, known}
use Rattle.adversary_net.proofs.world.World.state.Goals as goal

pub returns-in-Some-Correct-clause-entries : goal.returns-in-Some-Correct-clause-entries
returns-in-Some-Correct-clause-entries g c =
    let s = c.in-Some-Correct.replica in
    let at : slice_get c.args.self.now.parties c.args.replica ≡ Some (party.Correct s) =
    sym c.in-Some-Correct.ensures.party ∙ ap Some c.in-Some-Correct.field-0-is in
    its_entries (g.A.Application.meaning) c.args.self.now c.args.replica s c.party.ensures.cluster (ap (option_and_then state_in) at)
    ∙ ap (λ (x : StateView). x.entries) (sym c.state.ensures)

pub returns-in-Some-Correct-clause-member : goal.returns-in-Some-Correct-clause-member
returns-in-Some-Correct-clause-member g c =
    let s = c.in-Some-Correct.replica in
    let at : slice_get c.args.self.now.parties c.args.replica ≡ Some (party.Correct s) =
    sym c.in-Some-Correct.ensures.party ∙ ap Some c.in-Some-Correct.field-0-is in
    subst (IsMemberAt (g.A.Application.meaning) c.args.self.now c.args.replica) (sym c.state.ensures)
    (c.party.ensures.cluster.members c.args.replica s (ap (option_and_then state_in) at))

pub returns-in-Some-Correct-clause-correct : goal.returns-in-Some-Correct-clause-correct
returns-in-Some-Correct-clause-correct g c =
    let s = c.in-Some-Correct.replica in
    let at : slice_get c.args.self.now.parties c.args.replica ≡ Some (party.Correct s) =
    sym c.in-Some-Correct.ensures.party ∙ ap Some c.in-Some-Correct.field-0-is in
    sym (known (g.A.Application.meaning) c.args.self.now c.args.replica (Some s) c.party.ensures.cluster (ap (option_and_then state_in) at))

pub returns-in-Some-Liar-clause-correct : goal.returns-in-Some-Liar-clause-correct
returns-in-Some-Liar-clause-correct g c =
    let keys = c.in-Some-Liar.field-0-0 in
    let at : slice_get c.args.self.now.parties c.args.replica ≡ Some (party.Liar keys) =
    sym c.in-Some-Liar.ensures.party ∙ ap Some c.in-Some-Liar.field-0-is in
    sym (known (g.A.Application.meaning) c.args.self.now c.args.replica None c.party.ensures.cluster (ap (option_and_then state_in) at))

pub returns-in-None-clause-correct : goal.returns-in-None-clause-correct
returns-in-None-clause-correct g c =
    sym (known (g.A.Application.meaning) c.args.self.now c.args.replica None c.party.ensures.cluster
    (ap (option_and_then state_in) (sym c.in-None.ensures.party)))
