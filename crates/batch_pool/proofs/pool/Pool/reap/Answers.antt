use Rattle.std.proofs.Common.{◌≡◌, min, length, take, sym, ap, ◌∙◌, arith}
use Rattle.std.proofs.lemmas.List.{take_min}
use Rattle.ledger_model.specs.Versions.{batch_limit}
use Rattle.std.specs.Map.{values_of}
use Rattle.std.proofs.lemmas.Grind.{common_steps}
use Rattle.batch_pool.proofs.pool.Pool.reap.Goals as goal
use Rattle.ledger_model.proofs.Lists.{take-next}

pub loop-index-preserved : goal.loop-index-preserved
loop-index-preserved c =
    let next = take-next (values_of c.self.inside.waiting.entries) c.loop-index.index c.index.result.now c.index.ensures in
    c.in_ok-push.ensures.items ∙ rw (c.loop-index.invariant, c.in_ok-copy.ensures.same) (sym next)

pub returns-clause-first : goal.returns-clause-first
returns-clause-first c =
    let pool = values_of c.self.inside.waiting.entries in
    let same = ap length c.self.view_is in
    let counted : c.loop-index.index ≡ min (batch_limit c.args.version) (length pool) =
    omega (
      arith,
      c.loop-index-test.false,
      c.loop-index.auto.index-end,
      c.min-count.ensures,
      c.len.ensures.len,
      c.batch_limit.ensures,
      same,
    ) in
    c.in-Ok.ensures.ok ∙ c.loop-index.invariant ∙ ap (λ k. take k pool) counted ∙ take_min (batch_limit c.args.version) pool
    ∙ ap (take (batch_limit c.args.version)) c.self.view_is

pub index-requires : goal.index-requires
index-requires c = grind (arith, common_steps)
