use Rattle.std.proofs.Common.{sym, ◌∙◌, rules}
use Rattle.history_audit.proofs.Searching.{unsent_none, unsent_some}
use Rattle.history_audit.proofs.unsent.least_at.Goals as goal

pub returns-in-Some : goal.returns-in-Some
returns-in-Some c =
    let least = unsent_some c.args.histories.now c.args.entry.now c.in-Some.frame (sym c.in_ok-frame.ensures ∙ c.in-Some.is) in
    search rules

pub returns-in-None : goal.returns-in-None
returns-in-None c = unsent_none c.args.histories.now c.args.entry.now (sym c.in_ok-frame.ensures ∙ c.in-None.is)
