use Rattle.std.proofs.KnownBytes.{Keeps-refl}
use Rattle.program.proofs.RunningLemmas.{handed_ends, handed_settings, settled}
use Rattle.program.specs.Doing.{settings_of}
use Rattle.program.proofs.running.run_settings.Goals as goal

pub returns-in-Ok-clause-ended : goal.returns-in-Ok-clause-ended
returns-in-Ok-clause-ended g c =
    settled (g.A.Opening.words.kinds) (g.A.Application.meaning) (settings_of c.in-Ok.piped) c.args.settings c.perform_whole-done.result c.end.result _ _ _ _ _ _
    c.in-Ok.ensures
    c.perform_whole-done.ensures.done c.perform_whole-done.ensures.explains c.end.ensures

pub returns-in-Err-clause-ended : goal.returns-in-Err-clause-ended
returns-in-Err-clause-ended g c = handed_ends c.args.settings c.in-Err.handed _ c.in-Err.ensures

pub returns-in-Err-clause-handed : goal.returns-in-Err-clause-handed
returns-in-Err-clause-handed g c =
    handed_settings c.args.settings c.in-Err.handed _ _ _ c.in-Err.ensures (Keeps-refl _) (Keeps-refl _) (Keeps-refl _)
