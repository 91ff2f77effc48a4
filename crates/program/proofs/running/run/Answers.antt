use Rattle.std.proofs.Common.{map, inl, inr, subst, sym}
use Rattle.std.proofs.KnownBytes.{Keeps-refl}
use Rattle.command_line.specs.Options.{IsSet}
use Rattle.program.proofs.RunningLemmas.{if_ended, if_handed, settled_finishes, settled_explains, settled_quiet, settled_refuses}
use Rattle.program.proofs.RunningLemmas.{settled_stops}
use Rattle.program.proofs.RunningLemmas.{settled_known, told_finishes, told_quiet, told_refuses, told_stops, told_known}
use Rattle.program.proofs.running.run.Goals as goal

pub returns-in-Ok-clause-finishes : goal.returns-in-Ok-clause-finishes
returns-in-Ok-clause-finishes g c =
    if_ended c.run_settings.result _ _
    (λ status is small. inl (settled_finishes (g.A.Opening.words) (g.A.Application.meaning) c.args.given
    (map (λ w. w.now) c.args.words.now) c.in-Ok.settings c.in-Ok.ensures.set
    c.in-Ok.ensures.taken status _ _ _ _ _ is
    small)) c.run_settings.ensures.ended

pub returns-in-Ok-clause-quiet : goal.returns-in-Ok-clause-quiet
returns-in-Ok-clause-quiet g c =
    if_ended c.run_settings.result _ _
    (λ status is zero. settled_quiet (g.A.Opening.words) (g.A.Application.meaning) c.args.given (map (λ w. w.now) c.args.words.now) c.in-Ok.settings c.in-Ok.ensures.set
    c.in-Ok.ensures.taken status _ _ _ _ _ _ is zero)
    c.run_settings.ensures.ended

pub returns-in-Ok-clause-explains : goal.returns-in-Ok-clause-explains
returns-in-Ok-clause-explains g c =
    if_ended c.run_settings.result _ _
    (λ status is one. settled_explains (g.A.Opening.words) (g.A.Application.meaning) c.args.given (map (λ w. w.now) c.args.words.now) c.in-Ok.settings c.in-Ok.ensures.set
    c.in-Ok.ensures.taken status _ _ _ _ _ _ is one)
    c.run_settings.ensures.ended

pub returns-in-Ok-clause-refuses : goal.returns-in-Ok-clause-refuses
returns-in-Ok-clause-refuses g c =
    if_ended c.run_settings.result _ _
    (λ status is two. settled_refuses (g.A.Opening.words) (g.A.Application.meaning) c.args.given (map (λ w. w.now) c.args.words.now) c.in-Ok.settings c.in-Ok.ensures.set
    c.in-Ok.ensures.taken status _ _ _ _ _ _ is two)
    c.run_settings.ensures.ended

pub returns-in-Ok-clause-stops : goal.returns-in-Ok-clause-stops
returns-in-Ok-clause-stops g c =
    if_ended c.run_settings.result _ _
    (λ status is three. inl (settled_stops (g.A.Opening.words) (g.A.Application.meaning) c.args.given
    (map (λ w. w.now) c.args.words.now) c.in-Ok.settings c.in-Ok.ensures.set
    c.in-Ok.ensures.taken status _ _ _ _ _ is
    three)) c.run_settings.ensures.ended

pub returns-in-Ok-clause-known : goal.returns-in-Ok-clause-known
returns-in-Ok-clause-known g c =
    if_ended c.run_settings.result _ _
    (λ status is. settled_known (g.A.Opening.words) (g.A.Application.meaning) c.args.given (map (λ w. w.now) c.args.words.now) c.in-Ok.settings c.in-Ok.ensures.set
    c.in-Ok.ensures.taken status _ _ _ _ _ is)
    c.run_settings.ensures.ended

pub returns-in-Ok-clause-hands_back : goal.returns-in-Ok-clause-hands_back
returns-in-Ok-clause-hands_back g c =
    if_handed c.run_settings.result _ _
    (λ handed is. (
      subst (IsSet (g.A.Opening.words) (g.A.Application.meaning) c.args.given (map (λ w. w.now) c.args.words.now)) (sym is.0) c.in-Ok.ensures.set,
      is.1,
      is.2,
      is.3,
      c.in-Ok.ensures.taken,
    ))
    c.run_settings.ensures.handed

pub returns-in-Err-clause-finishes : goal.returns-in-Err-clause-finishes
returns-in-Err-clause-finishes g c = λ small.
    let told = told_finishes (g.A.Opening.words) (g.A.Application.meaning) c.args.given (map (λ w. w.now) c.args.words.now) c.in-Err.fault c.write_fault.result _ _
    c.in-Err.ensures.right
    (λ enough taken s set. enough (c.in-Err.ensures.refused taken s set)) c.write_fault.ensures small in
    inr (told.0, told.1.0, told.1.1, Keeps-refl _)

pub returns-in-Err-clause-quiet : goal.returns-in-Err-clause-quiet
returns-in-Err-clause-quiet g c =
    λ zero. told_quiet (g.A.Opening.words) (g.A.Application.meaning) c.args.given (map (λ w. w.now) c.args.words.now) c.in-Err.fault c.write_fault.result _ _
    c.in-Err.ensures.right
    (λ enough taken s set. enough (c.in-Err.ensures.refused taken s set)) c.write_fault.ensures (inl zero)

pub returns-in-Err-clause-explains : goal.returns-in-Err-clause-explains
returns-in-Err-clause-explains g c =
    λ one. inl (told_quiet (g.A.Opening.words) (g.A.Application.meaning) c.args.given (map (λ w. w.now) c.args.words.now) c.in-Err.fault c.write_fault.result _ _
    c.in-Err.ensures.right
    (λ enough taken s set. enough (c.in-Err.ensures.refused taken s set)) c.write_fault.ensures (inr one))

pub returns-in-Err-clause-refuses : goal.returns-in-Err-clause-refuses
returns-in-Err-clause-refuses g c = λ two.
    let told = told_refuses (g.A.Opening.words) (g.A.Application.meaning) c.args.given (map (λ w. w.now) c.args.words.now) c.in-Err.fault c.write_fault.result _ _
    c.in-Err.ensures.right
    (λ enough taken s set. enough (c.in-Err.ensures.refused taken s set)) c.write_fault.ensures two in
    (told.0, told.1.0, Keeps-refl _, told.1.1)

pub returns-in-Err-clause-stops : goal.returns-in-Err-clause-stops
returns-in-Err-clause-stops g c =
    λ three. inr (
      Keeps-refl _,
      told_stops (g.A.Opening.words) (g.A.Application.meaning) c.args.given (map (λ w. w.now) c.args.words.now) c.in-Err.fault c.write_fault.result _ _
          c.in-Err.ensures.right
          (λ enough taken s set. enough (c.in-Err.ensures.refused taken s set)) c.write_fault.ensures three,
    )

pub returns-in-Err-clause-known : goal.returns-in-Err-clause-known
returns-in-Err-clause-known g c =
    told_known (g.A.Opening.words) (g.A.Application.meaning) c.args.given (map (λ w. w.now) c.args.words.now) c.in-Err.fault c.write_fault.result _ _ c.in-Err.ensures.right
    (λ enough taken s set. enough (c.in-Err.ensures.refused taken s set)) c.write_fault.ensures
