use Rattle.std.proofs.Common.{◌++◌, ◌∷◌, [], take, sym, ap, ◌∙◌, arith}
use Rattle.std.proofs.lemmas.Grind.{common_steps}
use Rattle.adversary_net.proofs.Members.{histories, histories_more, take_next}
use Rattle.adversary_net.proofs.world.World.histories.Goals as goal

pub loop-party-preserved : goal.loop-party-preserved
loop-party-preserved g c =
    c.in_ok-add_history.ensures
    ∙ ap (λ hs. hs ++ histories (c.party-item.result ∷ [])) c.loop-party.invariant
    ∙ sym (histories_more (take c.loop-party.party-index c.deref-party-items.result.now) c.party-item.result)
    ∙ ap histories (sym (take_next c.deref-party-items.result.now c.loop-party.party-index c.party-item.result c.loop-party-test.true
    c.party-item.is))

pub returns : goal.returns
returns g c = grind (arith, common_steps)
