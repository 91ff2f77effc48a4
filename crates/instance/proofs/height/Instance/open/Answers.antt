use Rattle.std.proofs.Common.{rules, ◌++◌, ◌∷◌, [], refl, sym, subst, arith}
use Rattle.std.specs.Prelude.{None}
use Rattle.std.proofs.lemmas.List.{length-replicate}
use Rattle.ledger_model.specs.Notes.{Proposed}
use Rattle.instance.specs.Matching.{MatchesLog, IsSpelled}
use Rattle.instance.specs.Reads.{opened_row}
use Rattle.instance.proofs.Opens.{opens}
use Rattle.instance.proofs.height.Instance.open.Goals as goal

pub returns-clause-row : goal.returns-clause-row
returns-clause-row c = search rules

pub returns-clause-matches : goal.returns-clause-matches
returns-clause-matches c = λ ring log rounds.
    let config = c.args.config.now in
    let own = c.args.initial.now in
    subst (λ row. MatchesLog ring row (log ++ Proposed own ∷ [])) (sym (returns-clause-row c))
    (opens config c.args.id c.args.height own ring log c.requires.member (c.requires.height.0, omega (arith, c.requires.height.1))
    c.requires.initial rounds)

pub invariant_of-result : goal.invariant_of-result
invariant_of-result c =
    let config = c.args.config.now in
    let row = opened_row config c.args.id c.args.height c.args.initial.now in
    let spelled : IsSpelled row = (opens config c.args.id c.args.height c.args.initial.now [] [] c.requires.member
    (c.requires.height.0, omega (arith, c.requires.height.1)) c.requires.initial refl).sound.spelled in
    rw (
      c.in_ok-proper.ensures.config,
      c.in_ok-proper.ensures.set,
      c.in_ok-locks.ensures,
      c.in_ok-reports.ensures.reports,
      c.in_ok-reports.ensures.acks,
    )
    (refl, c.requires.member, length-replicate _ None, length-replicate _ None, spelled)
