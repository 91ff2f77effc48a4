use Rattle.std.proofs.Common.{◌≡◌, rules, sym, ap, subst, ◌∙◌}
use Rattle.std.specs.Prelude.{Some}
use Rattle.ledger_model.specs.declared.statement.SignedStatement.{SignedStatement}
use Rattle.ledger_model.specs.Locks.{lock_value}
use Rattle.ledger_model.specs.Notes.{version_of}
use Rattle.ledger_model.specs.Values.{IsValueIn}
use Rattle.ledger_model.specs.Spelling.{IsFrame, IsLock}
use Rattle.instance.proofs.SpelledRows.{keeps_lock}
use Rattle.instance.proofs.height.Instance.put_lock.Goals as goal

pub invariant_of-self : goal.invariant_of-self
invariant_of-self c =
    let i = c.self.invariant in
    let lock : IsLock c.of_own.result.lock = (subst IsFrame (sym c.of_own.ensures) c.statement.ensures.frame).statement in
    let version = ap (λ (f : SignedStatement). version_of f.statement) c.of_own.ensures ∙ (rw (sym c.self.view_is) at c.requires.version) in
    let fits = subst (λ v. IsValueIn v c.of_own.result.lock.value) version lock.value in
    let taken : Some c.args.taken ≡ Some c.of_own.result.lock.value =
    sym c.requires.taken ∙ ap (λ (f : SignedStatement). lock_value f.statement) (sym c.of_own.ensures) in
    (i.0, i.1, i.2, i.3, keeps_lock i.4 c.of_own.result _ _ _ fits (search rules) (search rules) taken)

pub invariant_of-self-then-is_ok-2 : goal.invariant_of-self-then-is_ok-2
invariant_of-self-then-is_ok-2 c =
    let i = c.self.invariant in
    let lock : IsLock c.of_own.result.lock = (subst IsFrame (sym c.of_own.ensures) c.statement.ensures.frame).statement in
    let version = ap (λ (f : SignedStatement). version_of f.statement) c.of_own.ensures ∙ (rw (sym c.self.view_is) at c.requires.version) in
    let fits = subst (λ v. IsValueIn v c.of_own.result.lock.value) version lock.value in
    let taken : Some c.args.taken ≡ Some c.of_own.result.lock.value =
    sym c.requires.taken ∙ ap (λ (f : SignedStatement). lock_value f.statement) (sym c.of_own.ensures) in
    (i.0, i.1, i.2, i.3, keeps_lock i.4 c.of_own.result _ _ _ fits (search rules) (search rules) taken)
