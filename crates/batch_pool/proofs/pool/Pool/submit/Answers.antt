use Rattle.std.proofs.Common.{◌≡◌, ℕ, ◌<◌, false, List, length, sym, subst, ◌∙◌}
use Rattle.std.specs.Prelude.{Result, Ok, Err}
use Rattle.ledger_model.specs.declared.reply.SubmitRefusal.{SubmitRefusal}
use Rattle.ledger_model.specs.declared.reply.SubmitRefusal.TheVariants as refusal
use Rattle.ledger_model.specs.Applications.{Machine}
use Rattle.ledger_model.specs.Limits.{max_pool_len}
use Rattle.ledger_model.specs.Pools.{is_among, own_refusals, submit_answer}
use Rattle.abci.specs.Meaning.{ChecksTo}
use Rattle.batch_pool.proofs.Checked.{checked_by_blocks}
use Rattle.batch_pool.proofs.Entries.{txs_of, length-txs, kept_after, txs-pushed}
use Rattle.batch_pool.proofs.Refusals.{rejected, accepted}
use Rattle.batch_pool.proofs.pool.Pool.submit.Goals as goal

pub returns-then-code-ne0-clause-answer : goal.returns-then-code-ne0-clause-answer
returns-then-code-ne0-clause-answer g c =
    λ batches led.
    let m : Machine = g.A.Application.machine c.args.app.now in
    let code = c.check_tx-code.result in
    let checked = subst (λ (tx : List ℕ). ChecksTo (g.A.Application.meaning) m tx code) c.in_ok-tx.ensures c.check_tx-code.ensures in
    let none = sym c.own_refusal.ensures.first ∙ c.in_default.is in
    subst (λ n. ◌≡◌ {A = Result (Unit {0}) SubmitRefusal} (Err (refusal.Rejected code)) (submit_answer c.args.self.now c.args.bytes.now n))
    (checked_by_blocks (g.A.Application.meaning) m c.args.bytes.now code checked batches led)
    (rejected (own_refusals c.args.self.now c.args.bytes.now) code none c.if-code-ne0.true)

pub returns-in-Ok-clause-answer : goal.returns-in-Ok-clause-answer
returns-in-Ok-clause-answer g c =
    λ batches led.
    let m : Machine = g.A.Application.machine c.args.app.now in
    let code = c.check_tx-code.result in
    let checked = subst (λ (tx : List ℕ). ChecksTo (g.A.Application.meaning) m tx code) c.in_ok-tx.ensures c.check_tx-code.ensures in
    let none = sym c.own_refusal.ensures.first ∙ c.in_default.is in
    subst (λ n. ◌≡◌ {A = Result (Unit {0}) SubmitRefusal} (Ok tt) (submit_answer c.args.self.now c.args.bytes.now n))
    (checked_by_blocks (g.A.Application.meaning) m c.args.bytes.now code checked batches led)
    (accepted (own_refusals c.args.self.now c.args.bytes.now) code none c.if-code-ne0.false)

pub invariant_of-self : goal.invariant_of-self
invariant_of-self g c =
    let entries = c.self.inside.waiting.entries in
    let same = c.in_ok-key.ensures.items ∙ sym c.in_ok-tx.ensures in
    let fresh : is_among (txs_of entries) c.in_ok-tx.tx ≡ false = rw (c.self.view_is, c.in_ok-tx.ensures) c.in_default.ensures.fresh in
    let room : length entries < max_pool_len = rw (← length-txs entries, c.self.view_is) c.in_default.ensures.room in
    kept_after c.self.inside.waiting c.in_ok-key.key c.in_ok-tx.tx (c.self.invariant.1) same fresh c.insert.result
    c.insert.new.self.entries room c.insert.ensures.entries c.insert.ensures.err

pub returns-in-Ok-clause-pool : goal.returns-in-Ok-clause-pool
returns-in-Ok-clause-pool g c =
    let entries = c.self.inside.waiting.entries in
    let same = c.in_ok-key.ensures.items ∙ sym c.in_ok-tx.ensures in
    let fresh : is_among (txs_of entries) c.in_ok-tx.tx ≡ false = rw (c.self.view_is, c.in_ok-tx.ensures) c.in_default.ensures.fresh in
    rw (← c.self.view_is, ← c.in_ok-tx.ensures)
    (txs-pushed c.self.inside.waiting c.in_ok-key.key c.in_ok-tx.tx (c.self.invariant.1) same fresh c.insert.new.self.entries
    c.in-Ok.ensures.entries)
