use Rattle.http_messages.proofs.TextLemmas.{endpoint_of-no_text}
use Rattle.http_messages.proofs.endpoint.endpoint_of.Goals as goal

pub returns-in-Err : goal.returns-in-Err
returns-in-Err c = endpoint_of-no_text c.args.path.now c.in-Err.ensures.cases.0
