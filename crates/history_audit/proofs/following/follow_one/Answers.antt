use Rattle.std.proofs.Common.{◌<◌, ◌≤◌, List, length, ap, subst, ◌∙◌}
use Rattle.ledger_model.specs.Values.{Value}
use Rattle.ledger_model.specs.Commits.{commits_of}
use Rattle.history_audit.proofs.Replaying.{longer_one, longer_none}
use Rattle.history_audit.proofs.following.follow_one.Goals as goal
use Rattle.history_audit.proofs.following.follow_one.Goals.{then-height-blocks+in_ok-ledger, else-height-blocks}

pub returns-clause-answer : goal.returns-clause-answer
returns-clause-answer g c =
    let old = c.args.ledger.now in
    let commits = commits_of c.args.config.now c.args.history.now.replica c.args.history.now.entries in
    let are = c.in_ok-follower.ensures.answer.1 in
    let size = c.height.ensures.height ∙ ap length are in (
      c.in_ok-follower.ensures.answer.0,
      elim c.if-height-blocks.branch [
        | then-height-blocks+in_ok-ledger w ↦
            w.ledger-is ∙ w.in_ok-ledger.ensures ∙ are
            ∙ longer_one old commits c.height.result
            (subst (λ (xs : List Value). length xs < c.height.result) c.blocks-2.ensures w.if-height-blocks.true) size
        | else-height-blocks w ↦
            w.ledger-is
            ∙ longer_none old commits c.height.result
            (subst (λ (xs : List Value). c.height.result ≤ length xs) c.blocks-2.ensures w.if-height-blocks.false) size
      ],
    )
