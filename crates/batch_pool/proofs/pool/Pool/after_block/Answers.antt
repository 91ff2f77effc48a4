-- Each `retain` filters the transactions by a test of its own.
use Rattle.std.proofs.Common.{◌∙◌, ℕ, List, Bool, ap, rules, filter, arith}
use Rattle.std.specs.Prelude.{◌==◌, not}
use Rattle.indexmap.proofs.CallerLemmas.{filter-RetainsPairs}
use Rattle.ledger_model.specs.Applications.{Machine}
use Rattle.ledger_model.specs.Pools.{is_among}
use Rattle.ledger_model.specs.Replies.{check_reply}
use Rattle.batch_pool.specs.Keyed.{PoolEntry}
use Rattle.batch_pool.proofs.Entries.{txs_of, filter-txs, keyed-retained}
use Rattle.batch_pool.proofs.pool.Pool.after_block.Goals as goal

pub invariant_of-self : goal.invariant_of-self
invariant_of-self g c = (
  omega (arith, c.retain.ensures.bound, c.retain-2.ensures.bound, c.self.invariant.0),
  keyed-retained _ (λ f k v b w h call. search rules) _ _ _ c.retain-2.ensures.filtered
      (keyed-retained _ (λ f k v b w h call. search rules) _ _ _ c.retain.ensures.filtered (c.self.invariant.1)),
)

pub returns : goal.returns
returns g c =
    λ batches led.
    let m : Machine = g.A.Application.machine c.args.app.now in
    let is_new : List ℕ → Bool = λ tx. not (is_among c.args.block.now tx) in
    let passes : List ℕ → Bool = λ tx. check_reply (g.A.Application.meaning) m.kind batches tx == 0 in
    let first = filter-RetainsPairs _ (λ (e : PoolEntry). is_new e.1) _ (λ k v b w h call. search rules) _ _ c.retain.ensures.filtered in
    let second = filter-RetainsPairs _ (λ (e : PoolEntry). passes e.1) _ (λ k v b w h call. search rules) _ _ c.retain-2.ensures.filtered in
    ap txs_of second ∙ filter-txs passes _ ∙ ap (filter passes) (ap txs_of first ∙ filter-txs is_new _ ∙ ap (filter is_new) c.self.view_is)
