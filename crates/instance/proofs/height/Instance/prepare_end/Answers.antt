use Rattle.std.proofs.Common.{◌≡◌, ◌+◌, List, sym, subst}
use Rattle.std.specs.Prelude.{map, Result, Ok, Err, IfOk}
use Rattle.std.specs.List.{AllByRecursion}
use Rattle.ledger_model.specs.Rounds.{place_of, release_place}
use Rattle.ledger_model.specs.Notes.{Note, clock_of}
use Rattle.ledger_model.specs.Rules.{Ring}
use Rattle.ledger_model.specs.Lawful.{held_locks}
use Rattle.ledger_model.specs.Spelling.{frame_bytes}
use Rattle.instance.specs.Matching.{MatchesLog}
use Rattle.instance.specs.Laws.{IsLockSentOn}
use Rattle.instance.specs.Plans.{RoundEffectsView, opened_effects}
use Rattle.instance.proofs.AtClock.{sends_at}
use Rattle.instance.proofs.Makes.{sends_locks}
use Rattle.instance.proofs.height.Instance.prepare_end.Goals as goal

-- what holds of what is due holds of what is answered
of_due : {X E : Type 0} (P : X → Type 0) (x : Result X E) (due : X) → IfOk x (λ r. r ≡ due) → P due → IfOk x P
of_due P (Ok r) due is holds = subst P (sym is) holds
of_due P (Err e) due is holds = tt

pub returns-clause-sends_on : goal.returns-clause-sends_on
returns-clause-sends_on c =
    of_due (λ (e : RoundEffectsView). (ring : Ring) (log : List Note) → MatchesLog ring c.args.self.now log → clock_of log ≡ c.args.clock
    → place_of (c.args.clock + 1) ≡ release_place → e.sends_on ≡ map frame_bytes (held_locks log))
    c.ending.result (opened_effects c.args.self.now (c.args.clock + 1)) c.ending.ensures
    (λ ring log matches clock place. sends_at ring c.args.self.now log c.args.clock matches clock place)

pub returns-clause-readable : goal.returns-clause-readable
returns-clause-readable c =
    of_due (λ (e : RoundEffectsView). (ring : Ring) (log : List Note) → MatchesLog ring c.args.self.now log
    → AllByRecursion (IsLockSentOn ring c.args.self.now.height) e.sends_on)
    c.ending.result (opened_effects c.args.self.now (c.args.clock + 1)) c.ending.ensures
    (λ ring log matches. sends_locks ring c.args.self.now log (c.args.clock + 1) matches)
