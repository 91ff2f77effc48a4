-- A transaction is found by its bytes exactly where it is among those that wait.
use Rattle.std.proofs.Common.{◌≡◌, true, false, sym, ap, ◌∙◌, rules, List, ℕ}
use Rattle.ledger_model.specs.Pools.{is_among}
use Rattle.batch_pool.proofs.Entries.{found-among}
use Rattle.batch_pool.proofs.pool.Pool.own_refusal.Goals as goal

pub returns-then-contains_key-clause-first : goal.returns-then-contains_key-clause-first
returns-then-contains_key-clause-first c =
    let same = c.contains_key.ensures ∙ found-among c.self.inside.waiting.entries c.args.bytes.now (c.self.invariant.1)
    ∙ ap (λ (txs : List (List ℕ)). is_among txs c.args.bytes.now) c.self.view_is in
    let found : is_among c.args.self.now c.args.bytes.now ≡ true = sym same ∙ c.if-contains_key.true in
    rw found (search rules)

pub returns-then-len-ge-MAX_WAITING-clause-first : goal.returns-then-len-ge-MAX_WAITING-clause-first
returns-then-len-ge-MAX_WAITING-clause-first c =
    let same = c.contains_key.ensures ∙ found-among c.self.inside.waiting.entries c.args.bytes.now (c.self.invariant.1)
    ∙ ap (λ (txs : List (List ℕ)). is_among txs c.args.bytes.now) c.self.view_is in
    let fresh : is_among c.args.self.now c.args.bytes.now ≡ false = sym same ∙ c.if-contains_key.false in
    rw fresh (search rules)

pub returns-clause-fresh : goal.returns-clause-fresh
returns-clause-fresh c =
    let same = c.contains_key.ensures ∙ found-among c.self.inside.waiting.entries c.args.bytes.now (c.self.invariant.1)
    ∙ ap (λ (txs : List (List ℕ)). is_among txs c.args.bytes.now) c.self.view_is in
    sym same ∙ c.if-contains_key.false

pub returns-clause-first : goal.returns-clause-first
returns-clause-first c = rw (returns-clause-fresh c) (search rules)
