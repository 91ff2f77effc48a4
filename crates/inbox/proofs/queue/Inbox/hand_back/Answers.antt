use Rattle.std.proofs.Common.{sym, ap, ◌∙◌, subst}
use Rattle.inbox.specs.declared.log.Log.{Log}
use Rattle.inbox.specs.Passes.{PuttingPassView, TakingPassView}
use Rattle.inbox.specs.InboxRule.{seat_log, Behind}
use Rattle.inbox.proofs.Moves.{merges, behind}
use Rattle.inbox.proofs.PassEnds.{shared}
use Rattle.inbox.proofs.queue.Inbox.hand_back.Goals as goal

pub absorb-requires-clause-rule : goal.absorb-requires-clause-rule
absorb-requires-clause-rule c = let i = c.taking.invariant in merges _ _ _ _ i.1 i.2 c.putting.invariant.1

pub learn_as-requires-clause-rule : goal.learn_as-requires-clause-rule
learn_as-requires-clause-rule c = behind _ _ (ap (λ v. v.takes) c.absorb.ensures.rule ∙ c.taking.invariant.1)

pub returns-clause-shared : goal.returns-clause-shared
returns-clause-shared c =
    let told = c.learn_as.ensures.rule in
    let number = c.putting.invariant.3 ∙ ap (λ (p : PuttingPassView). p.number) c.putting.view_is in
    let put = ap (λ (p : PuttingPassView). p.put) c.putting.view_is in
    let taken = ap (λ (p : TakingPassView). p.taken) c.taking.view_is in
    let found = shared (seat_log c.taking.inside.seat) (seat_log c.putting.inside.seat) told.0
    (subst (λ (v : Log). Behind v told.0) c.absorb.ensures.rule told.1) in
    (told.0, rw (sym number, sym put, sym taken) found)
