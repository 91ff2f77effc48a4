use Rattle.std.proofs.Common.{sym, ap, ◌∙◌, rules}
use Rattle.inbox.proofs.Moves.{puts, beside}
use Rattle.inbox.proofs.queue.Inbox.put.Goals as goal

pub push_as-requires-clause-rule : goal.push_as-requires-clause-rule
push_as-requires-clause-rule g c =
    let i = c.pass.invariant in
    (puts _ _ _ _ c.self.invariant i.1 i.2 (c.requires.number ∙ sym (ap (λ p. p.number) c.pass.view_is) ∙ sym i.3), beside _ _)

pub returns-clause-put : goal.returns-clause-put
returns-clause-put g c = search rules
