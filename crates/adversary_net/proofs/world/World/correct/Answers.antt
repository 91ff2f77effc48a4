use Rattle.std.proofs.Common.{◌≡◌, sym, ap, ◌∙◌}
use Rattle.std.specs.Prelude.{Some, None, slice_get, option_and_then}
use Rattle.adversary_net.specs.declared.party.Party.TheVariants as party
use Rattle.adversary_net.specs.WorldViews.{state_in}
use Rattle.adversary_net.proofs.Asking.{fault_is, its_entries, no_entries}
use Rattle.adversary_net.proofs.world.World.correct.Goals as goal

pub returns-in-Some-Correct-clause-no_fault : goal.returns-in-Some-Correct-clause-no_fault
returns-in-Some-Correct-clause-no_fault g c =
    let s = c.in-Some-Correct.replica in
    let at : slice_get c.args.self.now.parties c.args.replica ≡ Some (party.Correct s) =
    sym c.in-Some-Correct.ensures.party ∙ ap Some c.in-Some-Correct.field-0-is in
    fault_is (g.A.Application.meaning) c.args.self.now c.args.replica c.party.ensures.cluster (Some (party.Correct s)) at

pub returns-in-Some-Correct-clause-correct : goal.returns-in-Some-Correct-clause-correct
returns-in-Some-Correct-clause-correct g c =
    let s = c.in-Some-Correct.replica in
    let at : slice_get c.args.self.now.parties c.args.replica ≡ Some (party.Correct s) =
    sym c.in-Some-Correct.ensures.party ∙ ap Some c.in-Some-Correct.field-0-is in
    ap (option_and_then state_in) at

pub returns-in-Some-Correct-clause-member : goal.returns-in-Some-Correct-clause-member
returns-in-Some-Correct-clause-member g c =
    let s = c.in-Some-Correct.replica in
    let at : slice_get c.args.self.now.parties c.args.replica ≡ Some (party.Correct s) =
    sym c.in-Some-Correct.ensures.party ∙ ap Some c.in-Some-Correct.field-0-is in
    c.party.ensures.cluster.members c.args.replica s (ap (option_and_then state_in) at)

pub returns-in-Some-Correct-clause-entries : goal.returns-in-Some-Correct-clause-entries
returns-in-Some-Correct-clause-entries g c =
    let s = c.in-Some-Correct.replica in
    let at : slice_get c.args.self.now.parties c.args.replica ≡ Some (party.Correct s) =
    sym c.in-Some-Correct.ensures.party ∙ ap Some c.in-Some-Correct.field-0-is in
    its_entries (g.A.Application.meaning) c.args.self.now c.args.replica s c.party.ensures.cluster (ap (option_and_then state_in) at)

pub returns-in-Some-Liar-clause-fault : goal.returns-in-Some-Liar-clause-fault
returns-in-Some-Liar-clause-fault g c =
    let keys = c.in-Some-Liar.field-0-0 in
    let at : slice_get c.args.self.now.parties c.args.replica ≡ Some (party.Liar keys) =
    sym c.in-Some-Liar.ensures.party ∙ ap Some c.in-Some-Liar.field-0-is in
    fault_is (g.A.Application.meaning) c.args.self.now c.args.replica c.party.ensures.cluster (Some (party.Liar keys)) at

pub returns-in-None-clause-fault : goal.returns-in-None-clause-fault
returns-in-None-clause-fault g c = fault_is (g.A.Application.meaning) c.args.self.now c.args.replica c.party.ensures.cluster None
    (sym c.in-None.ensures.party)

pub returns-in-Some-Liar-clause-no_entries : goal.returns-in-Some-Liar-clause-no_entries
returns-in-Some-Liar-clause-no_entries g c =
    let keys = c.in-Some-Liar.field-0-0 in
    let at : slice_get c.args.self.now.parties c.args.replica ≡ Some (party.Liar keys) =
    sym c.in-Some-Liar.ensures.party ∙ ap Some c.in-Some-Liar.field-0-is in
    no_entries (g.A.Application.meaning) c.args.self.now c.args.replica c.party.ensures.cluster (ap (option_and_then state_in) at)

pub returns-in-None-clause-no_entries : goal.returns-in-None-clause-no_entries
returns-in-None-clause-no_entries g c =
    no_entries (g.A.Application.meaning) c.args.self.now c.args.replica c.party.ensures.cluster
    (ap (option_and_then state_in) (sym c.in-None.ensures.party))
