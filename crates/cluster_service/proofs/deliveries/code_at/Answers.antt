use Rattle.std.proofs.Common.{◌≡◌, ◌-◌, ℕ, Some, ap, arith, sym, ◌∙◌}
use Rattle.std.proofs.lemmas.Bool.{eqb-true}
use Rattle.ledger_model.specs.Commits.{commits_of}
use Rattle.locked_replica.specs.Views.{reply_lent}
use Rattle.cluster_service.proofs.Delivering.{found_here}
use Rattle.cluster_service.proofs.deliveries.code_at.Goals as goal

pub returns-in-Some-delivered_at : goal.returns-in-Some-delivered_at
returns-in-Some-delivered_at g c =
    let s = c.args.state.now in
    let found : ℕ = c.in-Some-delivered_at.found in
    let code : ℕ = c.in-Some-delivered_at.code in
    let same : found ≡ c.args.height = eqb-true found c.args.height (sym c.eq.ensures ∙ c.if-eq.true) in
    record {
      replay = c.len-index.ensures.sound.replay;
      after = c.loop-index.index - 1;
      later = omega arith;
      found =
          sym (found_here (commits_of s.config s.id s.entries) s.entries c.args.tx.now (c.loop-index.index - 1) c.in-Some.entry
          (sym c.in-Some.ensures.entry) (reply_lent c.reply.result) c.reply.ensures (found, code) c.in-Some-delivered_at.ensures)
          ∙ ap (λ (h : ℕ). Some (h, code)) same;
    }
