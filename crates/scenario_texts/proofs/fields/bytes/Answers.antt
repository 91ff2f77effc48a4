use Rattle.std.proofs.Common.{sym}
use Rattle.scenario_texts.proofs.BytesReading.{bytes_of-stands_for, bytes_of-none}
use Rattle.scenario_texts.proofs.fields.bytes.Goals as goal

pub returns-in-Ok : goal.returns-in-Ok
returns-in-Ok c = (sym (bytes_of-stands_for c.args.word.now c.in-Ok.bytes.items c.in-Ok.ensures.some))

pub returns-in_default : goal.returns-in_default
returns-in_default c = sym (bytes_of-none c.args.word.now (λ bytes stands. c.in_default.not-NoMemory (c.in-Err.ensures.none bytes stands)))
