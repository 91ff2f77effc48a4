use Rattle.std.proofs.Common.{sym, ◌∙◌, ◌≤◌, subst}
use Rattle.std.proofs.Math.Nat.{le_refl}
use Rattle.ledger_model.specs.Commits.{commits_of}
use Rattle.locked_replica.specs.Views.{reply_lent}
use Rattle.cluster_service.proofs.Delivering.{found_here, none_left, not_here}
use Rattle.cluster_service.proofs.deliveries.delivered_after.Goals as goal

pub returns-in-Some-delivered_at-clause-found : goal.returns-in-Some-delivered_at-clause-found
returns-in-Some-delivered_at-clause-found g c =
    let s = c.args.state.now in
    found_here (commits_of s.config s.id s.entries) s.entries c.args.tx.now c.loop-index.index c.in-Some.entry (sym c.in-Some.ensures.entry)
    (reply_lent c.reply.result) c.reply.ensures c.in-Some-delivered_at.found c.in-Some-delivered_at.ensures
    ∙ c.loop-index.invariant

pub returns-in-Some-delivered_at-clause-delivery : goal.returns-in-Some-delivered_at-clause-delivery
returns-in-Some-delivered_at-clause-delivery g c = record {
  replay = c.len-index-end.ensures.sound.replay;
  after = c.args.first;
  later = le_refl c.args.first;
  found = sym (returns-in-Some-delivered_at-clause-found g c);
}

pub loop-index-preserved : goal.loop-index-preserved
loop-index-preserved g c =
    let s = c.args.state.now in
    not_here (commits_of s.config s.id s.entries) s.entries c.args.tx.now c.loop-index.index c.in-Some.entry (sym c.in-Some.ensures.entry)
    (reply_lent c.reply.result) c.reply.ensures c.in-None.ensures
    ∙ c.loop-index.invariant

pub returns-clause-found : goal.returns-clause-found
returns-clause-found g c =
    let s = c.args.state.now in
    sym (none_left (commits_of s.config s.id s.entries) s.entries c.args.tx.now c.loop-index.index
    (subst (λ n. n ≤ c.loop-index.index) c.len-index-end.ensures.len c.loop-index-test.false))
    ∙ c.loop-index.invariant

pub returns-clause-undelivered : goal.returns-clause-undelivered
returns-clause-undelivered g c = record { replay = c.len-index-end.ensures.sound.replay; none = sym (returns-clause-found g c) }
