use Rattle.std.proofs.Common.{◌++◌, ◌∷◌, [], sym, ap, ◌∙◌}
use Rattle.ledger_model.proofs.Lists.{take-next}
use Rattle.replica_core.specs.Facts.{block_at}
use Rattle.history_audit.proofs.Replaying.{block_at-next}
use Rattle.history_audit.proofs.following.blocks_of.Goals as goal

pub loop-index-preserved : goal.loop-index-preserved
loop-index-preserved g c =
    let i = c.loop-index.index in
    let commits = c.args.follower.now.replay.commits in
    let block = c.in-Some.block.now in
    let there = sym (c.in-Some.ensures ∙ ap (block_at commits) c.new.ensures ∙ block_at-next commits i) in
    c.in_ok-append.ensures.ok ∙ ap (λ b. c.loop-index.ledger ++ b ∷ []) c.in_ok-copy.ensures.same
    ∙ ap (λ bs. bs ++ block ∷ []) c.loop-index.invariant ∙ sym (take-next commits i block there)
