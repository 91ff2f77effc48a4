use Rattle.std.proofs.Common.{rules}
use Rattle.http_messages.specs.Results.{commit_result}
use Rattle.http_messages.proofs.results.commit.Goals as goal

pub returns : goal.returns
unfolding commit_result
returns c = search rules
