use Rattle.std.proofs.Common.{take, ap, ◌∙◌}
use Rattle.locked_replica.proofs.Strings.{cut_back}
use Rattle.locked_replica.proofs.taking.take_event.Goals as goal

pub returns-in-Err-clause-strings_err : goal.returns-in-Err-clause-strings_err
returns-in-Err-clause-strings_err g c =
    c.truncate.ensures ∙ ap (λ n. take n c.take.new.strings) c.len-len.ensures.len
    ∙ cut_back c.args.strings.now c.take.new.strings c.take.ensures.kept
