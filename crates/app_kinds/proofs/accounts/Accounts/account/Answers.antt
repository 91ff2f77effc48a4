-- Each number of an account has four bytes.
use Rattle.app_kinds.proofs.accounts.Accounts.account.Goals as goal

pub returns-clause-fit : goal.returns-clause-fit
returns-clause-fit c = rw (← c.self.view_is) (c.self.invariant.2)
