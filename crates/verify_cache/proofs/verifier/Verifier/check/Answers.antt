use Rattle.std.proofs.Common.{rules}
use Rattle.verify_cache.proofs.verifier.Verifier.check.Goals as goal

pub keep-requires-clause-right : goal.keep-requires-clause-right
keep-requires-clause-right c = search rules
