use Rattle.lms_speed.proofs.KeyLemmas.{verifies-no_key}
use Rattle.lms_speed.proofs.answering.is_verified.Goals as goal

pub returns-in-Err : goal.returns-in-Err
returns-in-Err c = verifies-no_key c.args.key.now c.args.message.now c.args.signature.now c.in-Err.field-0 c.in-Err.ensures.length
    c.in-Err.ensures.scheme
